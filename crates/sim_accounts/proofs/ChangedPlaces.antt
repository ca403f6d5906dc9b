-- How often an event stands in the places of a body, event 0 not counted: place by place, and where one place changes.
use Rattle.std.proofs.Common.{◌≡◌, ◌≢◌, ℕ, zero, suc, ◌+◌, ◌<◌, ◌≤◌, List, [], ◌∷◌, ◌++◌, length, take, refl, ap, ◌∙◌, arith, ⊎_elim, Option, Some, None}
use Rattle.std.specs.Prelude.{count_by, slice_index_or}
use Rattle.std.proofs.lemmas.Bool.{cases_lt}
use Rattle.std.proofs.lemmas.List.{ext_get_or, get_or_past, take_all, take_more}
use Rattle.std.proofs.lemmas.List.Elements.{filter-append}
use Rattle.sim_types.specs.declared.event.EventId.{EventId}
use Rattle.sim_machine.specs.Events.{is_same}
use Rattle.sim_machine_law.proofs.Events.CallbackLaws.{count_by-append}
use Rattle.sim_happen_model.specs.Naming.{but_zero}

-- how often the event is among these
abbrev pub times_in : EventId → List EventId → ℕ
times_in e es = count_by (is_same e) (but_zero es)

-- the event in this place, or event 0 behind the last
abbrev pub in_place : List EventId → ℕ → EventId
in_place es i = slice_index_or es i (record { 0 = 0 })

-- ---- lists behind each other

pub but_zero-append : (es fs : List EventId) → but_zero (es ++ fs) ≡ but_zero es ++ but_zero fs
but_zero-append es fs = filter-append _ es fs

pub times_in-append : (e : EventId) (es fs : List EventId) → times_in e (es ++ fs) ≡ times_in e es + times_in e fs
times_in-append e es fs = ap (count_by (is_same e)) (but_zero-append es fs) ∙ count_by-append (is_same e) (but_zero es) (but_zero fs)

pub times_in-cons : (e x : EventId) (es : List EventId) → times_in e (x ∷ es) ≡ times_in e (x ∷ []) + times_in e es
times_in-cons e x es = times_in-append e (x ∷ []) es

-- ---- place by place

-- one place more
pub times_in-next : (e : EventId) (es : List EventId) (i : ℕ) → times_in e (take (i + 1) es) ≡ times_in e (take i es) + times_in e (in_place es i ∷ [])
times_in-next e es i = ⊎_elim within past (cases_lt i (length es))
  where
    within : i < length es → times_in e (take (i + 1) es) ≡ times_in e (take i es) + times_in e (in_place es i ∷ [])
    within lt = ap (times_in e) (take_more es i (record { 0 = 0 }) lt) ∙ times_in-append e (take i es) (in_place es i ∷ [])

    past : length es ≤ i → times_in e (take (i + 1) es) ≡ times_in e (take i es) + times_in e (in_place es i ∷ [])
    past le = omega (arith, ap (times_in e) (take_all (i + 1) es (omega (arith, le))), ap (times_in e) (take_all i es le), ap (λ f. times_in e (f ∷ [])) (get_or_past es i (record { 0 = 0 }) le))

-- ---- one place changes

-- lists that are alike in each place are one
pub alike_same : (es fs : List EventId) → length fs ≡ length es → ((i : ℕ) → in_place fs i ≡ in_place es i) → fs ≡ es
alike_same es fs long alike = ext_get_or (record { 0 = 0 }) fs es long (λ i within. alike i)

-- where no other place changes, an event is counted more often or less as it goes into this place or out of it
pub one_exchanged : (e : EventId) (es fs : List EventId) (k : ℕ) → length fs ≡ length es → ((i : ℕ) → i ≢ k → in_place fs i ≡ in_place es i)
    → times_in e fs + times_in e (in_place es k ∷ []) ≡ times_in e es + times_in e (in_place fs k ∷ [])
one_exchanged e [] [] k long alike = refl
one_exchanged e (x ∷ es) [] k long alike = absurd (omega (arith, long))
one_exchanged e [] (y ∷ fs) k long alike = absurd (omega (arith, long))
one_exchanged e (x ∷ es) (y ∷ fs) zero long alike =
    let same : fs ≡ es = alike_same es fs (omega (arith, long)) (λ i. alike (suc i) (λ is. omega (arith, is))) in
    omega (arith, times_in-cons e x es, times_in-cons e y fs, ap (times_in e) same)
one_exchanged e (x ∷ es) (y ∷ fs) (suc k) long alike =
    let rest = one_exchanged e es fs k (omega (arith, long)) (λ i other. alike (suc i) (λ is. other (omega (arith, is)))) in
    omega (arith, times_in-cons e x es, times_in-cons e y fs, ap (λ f. times_in e (f ∷ [])) (alike 0 (λ is. omega (arith, is))), rest)

-- the same where the place is told
pub place_exchanged : (e : EventId) (at : Option ℕ) (k : ℕ) (es fs : List EventId) → at ≡ Some k → length fs ≡ length es
    → ((i : ℕ) → at ≢ Some i → in_place fs i ≡ in_place es i)
    → times_in e fs + times_in e (in_place es k ∷ []) ≡ times_in e es + times_in e (in_place fs k ∷ [])
place_exchanged e at k es fs is long alike = one_exchanged e es fs k long (λ i other. alike i (λ told. other (cc)))

-- where no place is told, none changes
pub none_exchanged : (at : Option ℕ) (es fs : List EventId) → at ≡ None → length fs ≡ length es
    → ((i : ℕ) → at ≢ Some i → in_place fs i ≡ in_place es i) → fs ≡ es
none_exchanged at es fs is long alike = alike_same es fs long (λ i. alike i (λ told. absurd (cc)))
