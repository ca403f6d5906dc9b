-- What stands in the places of a body is held, or given back, place by place.
use Rattle.std.proofs.Common.{◌≡◌, ◌≢◌, ℕ, Option, zero, suc, ◌+◌, ◌<◌, ◌≤◌, List, [], ◌∷◌, ◌++◌, length, take, refl, sym, ap, subst, ◌∙◌, arith, ⊎_elim}
use Rattle.std.specs.Prelude.{All}
use Rattle.std.proofs.Math.ListN.{drop}
use Rattle.std.proofs.Math.Seq.{drop-cons}
use Rattle.std.proofs.lemmas.Bool.{cases_lt}
use Rattle.std.proofs.lemmas.List.{append-nil, get_or_past, take-append-drop}
use Rattle.sim_types.specs.declared.event.EventId.{EventId}
use Rattle.sim_machine.specs.State.{Calendar, State}
use Rattle.sim_machine.specs.Events.{is_same}
use Rattle.sim_machine_law.proofs.Events.CallbackLaws.{count_by-append}
use Rattle.sim_happen_model.specs.TableOf.{Kept, IsKept}
use Rattle.sim_happen_model.specs.HappenOf.{HappenOf, one_more}
use Rattle.sim_happen_model.specs.Seen.{seen}
use Rattle.sim_happen_model.specs.Shows.{Shows, Turns}
use Rattle.sim_happen_law.proofs.Shown.SeenShown.{shows_seen}
use Rattle.sim_happen_model.specs.Accounts.{Balanced}
use Rattle.sim_accounts.proofs.Balancing.{held_balanced}
use Rattle.sim_accounts.proofs.CalendarChanges.{after_same, none_events}
use Rattle.sim_happen_model.specs.Naming.{but_zero}
use Rattle.sim_accounts.proofs.ChangedPlaces.{in_place, times_in-next, but_zero-append}
use Rattle.sim_steps_model.specs.PartsOf.{PartsOf}
use Rattle.sim_steps_model.specs.Becoming.{BecomesOwing, IsOwing}
use Rattle.sim_steps_model.specs.Holding.{HoldsMore}
use Rattle.sim_steps_law.proofs.Kernels.Accounting.{other_is, owing_after, owing_besides, zero_is}
use Rattle.sim_steps_law.proofs.Kernels.Becoming.{becomes_none, becomes_then, becomes_within}
use Rattle.sim_steps_law.proofs.Holders.CountedHolders.{AreAlike, alike_itself, is_owing_first, owing_alike}
use Rattle.sim_machine.specs.Bodies.{BodyOf}

-- where a holder is taken, the accounts have one more
pub holds_more : (e : EventId) (a x : HappenOf) → e.0 ≢ 0 → IsKept a.events e → Turns (λ c. c) (one_more e) a x → HoldsMore e a.events x.events
holds_more e a x other kept t =
    let c : Calendar = seen a in
    let shown : Shows a c = shows_seen a in
    record {
      balanced = λ alone todo h.
          subst (λ xs. Balanced alone (xs ++ todo) x.events) (sym (other_is e other))
          (held_balanced a x c c shown (t.each c shown) (after_same c) (none_events c c refl) e kept t.held alone todo h);
    }

pub holds_none : (e : EventId) (es : List (Option Kept)) → e.0 ≡ 0 → HoldsMore e es es
holds_none e es is = record { balanced = λ alone todo h. subst (λ xs. Balanced alone (xs ++ todo) es) (sym (zero_is e is)) h }

-- ---- what stands there

-- what stands in no place before i stands in this one and those behind it
drop_past : (es : List EventId) (i : ℕ) → length es ≤ i → drop i es ≡ []
drop_past [] zero le = refl
drop_past [] (suc i) le = refl
drop_past (e ∷ es) zero le = absurd (omega (arith, le))
drop_past (e ∷ es) (suc i) le = drop_past es i (omega (arith, le))

none_dropped : (es : List EventId) → drop 0 es ≡ es
none_dropped [] = refl
none_dropped (e ∷ es) = refl

-- event 0 stands in all places from this one on
abbrev pub NoneFrom : List EventId → ℕ → Type 0
NoneFrom es n = (i : ℕ) → n ≤ i → in_place es i ≡ record { 0 = 0 }

-- then no other stands behind those before it
none_behind : (es : List EventId) (n : ℕ) → NoneFrom es n → but_zero (drop n es) ≡ []
none_behind [] zero none = refl
none_behind [] (suc n) none = refl
none_behind (e ∷ es) (suc n) none = none_behind es n (λ i le. none (suc i) (omega (arith, le)))
none_behind (e ∷ es) zero none =
    let behind : but_zero es ≡ [] = ap but_zero (sym (none_dropped es)) ∙ none_behind es 0 (λ i le. none (suc i) (omega arith)) in
    ap (λ x. but_zero (x ∷ es)) (none 0 (omega arith)) ∙ behind

all_before : (es : List EventId) (n : ℕ) → NoneFrom es n → but_zero (take n es) ≡ but_zero es
all_before es n none =
    sym (append-nil (but_zero (take n es)))
    ∙ ap (λ xs. but_zero (take n es) ++ xs) (sym (none_behind es n none))
    ∙ sym (but_zero-append (take n es) (drop n es))
    ∙ ap but_zero (take-append-drop n es)

pub first_dropped : (es : List EventId) (i : ℕ) → but_zero (drop i es) ≡ but_zero (in_place es i ∷ []) ++ but_zero (drop (i + 1) es)
first_dropped es i = ⊎_elim within past (cases_lt i (length es))
  where
    within : i < length es → but_zero (drop i es) ≡ but_zero (in_place es i ∷ []) ++ but_zero (drop (i + 1) es)
    within below =
        let next : suc i ≡ i + 1 = omega arith in
        ap but_zero (drop-cons es i (record { 0 = 0 }) below ∙ ap (λ n. in_place es i ∷ drop n es) next)
        ∙ but_zero-append (in_place es i ∷ []) (drop (i + 1) es)

    past : length es ≤ i → but_zero (drop i es) ≡ but_zero (in_place es i ∷ []) ++ but_zero (drop (i + 1) es)
    past le =
        ap but_zero (drop_past es i le)
        ∙ sym (ap (λ x. but_zero (x ∷ []) ++ but_zero (drop (i + 1) es)) (get_or_past es i (record { 0 = 0 }) le)
        ∙ ap but_zero (drop_past es (i + 1) (omega (arith, le))))

-- one place more
next_taken : (es : List EventId) (i : ℕ) → AreAlike (but_zero (in_place es i ∷ []) ++ but_zero (take i es)) (but_zero (take (i + 1) es))
next_taken es i = record {
  each = λ e. omega (arith, times_in-next e es i, count_by-append (is_same e) (but_zero (in_place es i ∷ [])) (but_zero (take i es)));
}

module _ {B Code : Type 0} (body : BodyOf B Code) (es : List EventId) where
  -- ---- held

  -- what stands in the places before this one is held
  abbrev pub HoldsBefore : ℕ → PartsOf B Code → PartsOf B Code → Type 0
  HoldsBefore i a b = BecomesOwing body [] (but_zero (take i es)) i (λ (s : State B). s) a b

  pub held_next : (i : ℕ) (first a b : PartsOf B Code) → HoldsBefore i first a →
      BecomesOwing body [] (but_zero (in_place es i ∷ [])) 1 (λ (s : State B). s) a b →
      HoldsBefore (i + 1) first b
  held_next i first a b h k =
      let none : List EventId = [] in
      owing_alike none (but_zero (take (i + 1) es)) (λ (s : State B). s) first b (alike_itself none) (next_taken es i)
      (becomes_then (λ (s : State B). s) (λ (s : State B). s) first a b h (owing_besides (but_zero (take i es)) (λ (s : State B). s) a b k))

  pub held_all : (n : ℕ) (a b : PartsOf B Code) → n ≤ 64 → NoneFrom es n → HoldsBefore n a b →
      BecomesOwing body [] (but_zero es) 64 (λ (s : State B). s) a b
  held_all n a b few none h =
      becomes_within n 64 (λ (s : State B). s) a b few
      (subst (λ xs. BecomesOwing body [] xs n (λ (s : State B). s) a b) (all_before es n none) h)

  -- ---- given back

  -- what stands in this place and behind it is to be given back
  abbrev pub OwesBehind : ℕ → PartsOf B Code → PartsOf B Code → Type 0
  OwesBehind i a b = BecomesOwing body (but_zero es) (but_zero (drop i es)) 0 (λ (s : State B). s) a b

  pub given_none : (a : PartsOf B Code) → OwesBehind 0 a a
  given_none a = subst (λ (xs : List EventId). BecomesOwing body (but_zero es) (but_zero xs) 0 (λ (s : State B). s) a a)
      (sym (none_dropped es)) (owing_besides (but_zero es) (λ (s : State B). s) a a (becomes_none a))

  pub owed_next : (i : ℕ) (first a : PartsOf B Code) → OwesBehind i first a → IsOwing body (but_zero es) first →
      IsOwing body (but_zero (in_place es i ∷ [])) a
  owed_next i first a h owing =
      is_owing_first (but_zero (in_place es i ∷ [])) (but_zero (drop (i + 1) es)) a
      (subst (λ xs. IsOwing body xs a) (first_dropped es i) (owing_after (λ (s : State B). s) first a h owing))

  pub given_next : (i : ℕ) (first a b : PartsOf B Code) → OwesBehind i first a →
      BecomesOwing body (but_zero (in_place es i ∷ [])) [] 0 (λ (s : State B). s) a b →
      OwesBehind (i + 1) first b
  given_next i first a b h k =
      let behind : List EventId = but_zero (drop (i + 1) es) in
      becomes_then (λ (s : State B). s) (λ (s : State B). s) first a b
      (subst (λ xs. BecomesOwing body (but_zero es) xs 0 (λ (s : State B). s) first a) (first_dropped es i) h)
      (owing_besides behind (λ (s : State B). s) a b k)

  pub given_all : (n : ℕ) (a b : PartsOf B Code) → NoneFrom es n → OwesBehind n a b → BecomesOwing body (but_zero es) [] 0 (λ (s : State B). s) a b
  given_all n a b none h = subst (λ xs. BecomesOwing body (but_zero es) xs 0 (λ (s : State B). s) a b) (none_behind es n none) h

-- ---- what is kept in each place

-- with event 0 behind the last
pub all_in_places : (P : EventId → Type 0) (es : List EventId) → P (record { 0 = 0 }) → All P es → (i : ℕ) → P (in_place es i)
all_in_places P es none all i =
    ⊎_elim (λ below. all i (record { 0 = 0 }) below) (λ past. subst P (sym (get_or_past es i (record { 0 = 0 }) past)) none) (cases_lt i (length es))
