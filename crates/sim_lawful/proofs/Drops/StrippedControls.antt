-- A process is dropped while another runs: its resumption is taken out of the callbacks still to call, and its registration
-- out of those of its target. It is resumed by nothing then, and all that is lawful in a calendar stays so.
use Rattle.std.proofs.Common.{◌≡◌, ℕ, ◌+◌, ◌<◌, ◌≤◌, Bool, true, false, ◌&&◌, ◌||◌, List, [], ◌∷◌, refl, ap, ◌∙◌, arith, ⊎_elim, if◌then◌else◌}
use Rattle.std.specs.Prelude.{◌==◌, count_by}
use Rattle.std.specs.List.{list_any}
use Rattle.std.proofs.lemmas.Bool.{and_parts, both_ways, cases_lt, cond_both, false≢true, or_cases, or_left, or_right}
use Rattle.std.proofs.lemmas.List.Sums.{count_by-le-length}
use Rattle.sim_types.specs.declared.event.EventId.{EventId}
use Rattle.sim_types.specs.declared.event.ProcId.{ProcId}
use Rattle.sim_types.specs.declared.event.Signal.{Signal}
use Rattle.sim_types.specs.declared.event.Callback.{Callback}
use Rattle.sim_machine.specs.State.{Registration, Calendar, Control, Active}
use Rattle.sim_machine.specs.Events.{is_same, is_process, without_first, unregister, is_resume_of, is_check_of, callbacks_of}
use Rattle.sim_machine.specs.Standing.{all_callbacks_of, callbacks_in_all}
use Rattle.sim_machine.specs.LawfulRegistrations.{LawfulRegistrations}
use Rattle.sim_machine.specs.LawfulInterruptions.{is_strike}
use Rattle.sim_machine.specs.LawfulConditions.{is_build_of, first_passes}
use Rattle.sim_machine.specs.LawfulChains.{LawfulChains, chains_well}
use Rattle.sim_machine_law.proofs.Events.CallbackLaws.{count_by-append, length_counts}
use Rattle.sim_machine_law.proofs.KeptParts.KeptRegistrations.{registrations_control}
use Rattle.sim_machine_law.proofs.KeptParts.KeptInterruptionsParts.{StrikesAlone, alone_parts, alone_from}
use Rattle.sim_machine_law.proofs.KeptParts.KeptConditions.{conditions_controlled}
use Rattle.sim_machine_law.proofs.KeptParts.KeptChains.{chains_control}
use Rattle.sim_lawful.proofs.Calendars.TakenOut.{All-without_first, bears, callbacks-counted, count-apart, count-less, count-taken, registrations_taken, strikes_taken, conditions_taken, chains_taken, resumes_only}
use Rattle.sim_lawful.proofs.Calls.StoppedWaiting.{Resumed, resumes_other, others-unregister, others_at-unregister}
use Rattle.sim_machine_law.proofs.KeptParts.LawfulBasis.{ConditionsBasis}

-- the control of a run of p, with the first resumption of q taken out of the calls left
abbrev pub without_resume : EventId → List Callback → ProcId → Signal → ProcId → Control
without_resume e left p x q = Active e (without_first (is_resume_of q) left) p x

-- ---- counts

called_apart : (t u : Callback → Bool) → ((y : Callback) → u y ≡ true → t y ≡ false) → (b : Bool) (left : List Callback)
    → count_by t (if b then without_first u left else []) ≡ count_by t (if b then left else [])
called_apart t u apart true left = count-apart t u apart left
called_apart t u apart false left = refl

called_less : (t u : Callback → Bool) (b : Bool) (left : List Callback)
    → count_by t (if b then without_first u left else []) ≤ count_by t (if b then left else [])
called_less t u true left = count-less t u left
called_less t u false left = omega arith

at-stripped : (t : Callback → Bool) (c : Calendar) (e f : EventId) (left : List Callback) (p q : ProcId) (x : Signal)
    → ((y : Callback) → is_resume_of q y ≡ true → t y ≡ false)
    → count_by t (all_callbacks_of c (without_resume e left p x q) f) ≡ count_by t (all_callbacks_of c (Active e left p x) f)
at-stripped t c e f left p q x apart =
    let after : List Callback = if is_same e f then without_first (is_resume_of q) left else [] in
    let before : List Callback = if is_same e f then left else [] in
    omega (arith, count_by-append t (callbacks_of f c) after, count_by-append t (callbacks_of f c) before, called_apart t (is_resume_of q) apart (is_same e f) left)

at-stripped_less : (t : Callback → Bool) (c : Calendar) (e f : EventId) (left : List Callback) (p q : ProcId) (x : Signal)
    → count_by t (all_callbacks_of c (without_resume e left p x q) f) ≤ count_by t (all_callbacks_of c (Active e left p x) f)
at-stripped_less t c e f left p q x =
    let after : List Callback = if is_same e f then without_first (is_resume_of q) left else [] in
    let before : List Callback = if is_same e f then left else [] in
    omega (arith, count_by-append t (callbacks_of f c) after, count_by-append t (callbacks_of f c) before, called_less t (is_resume_of q) (is_same e f) left)

in_all-stripped : (t : Callback → Bool) (c : Calendar) (e : EventId) (left : List Callback) (p q : ProcId) (x : Signal)
    → ((y : Callback) → is_resume_of q y ≡ true → t y ≡ false)
    → callbacks_in_all t c (without_resume e left p x q) ≡ callbacks_in_all t c (Active e left p x)
in_all-stripped t c e left p q x apart = omega (arith, count-apart t (is_resume_of q) apart left)

-- ---- who is resumed

abbrev pub without_waiting : EventId → ProcId → Calendar → Calendar
without_waiting target q c = unregister target (is_resume_of q) c

-- nothing resumes the one that waits no longer
pub none-dropped : (c : Calendar) (e : EventId) (left : List Callback) (p q : ProcId) (x : Signal) (target : EventId)
    → Resumed c (Active e left p x) q target
    → callbacks_in_all (is_resume_of q) (without_waiting target q c) (without_resume e left p x q) ≡ 0
none-dropped c e left p q x target h =
    let r : Callback → Bool = is_resume_of q in
    let u : Registration → Bool = bears target r in
    let called : List Callback = if is_same e target then left else [] in
    let sum : count_by r (all_callbacks_of c (Active e left p x) target) ≡ count_by u c.registered + count_by r called = count_by-append r (callbacks_of target c) called ∙ ap (λ (n : ℕ). n + count_by r called) (callbacks-counted r target c) in
    let passes : (z : Registration) → u z ≡ true → r z.callback ≡ true = λ z w. (and_parts (is_same z.event target) (r z.callback) w).1 in
    ⊎_elim
    (λ some. omega (arith, h.in_all, some, count-less (λ z. r z.callback) u c.registered, count-taken r r (λ y w. w) left some))
    (λ none.
    let in_called : count_by r called ≡ 0 = called_none (is_same e target) none in
    let here : 0 < count_by u c.registered = omega (arith, h.at, sum, in_called) in
    omega (arith, h.in_all, none, count-less r r left, count-taken (λ z. r z.callback) u passes c.registered here))
    (cases_lt 0 (count_by r left))
  where
    called_none : (b : Bool) → count_by (is_resume_of q) left ≤ 0 → count_by (is_resume_of q) (if b then left else []) ≡ 0
    called_none true none = omega (arith, none)
    called_none false none = refl

-- and all others are resumed as before
pub others-dropped : (c : Calendar) (e : EventId) (left : List Callback) (p q r : ProcId) (x : Signal) (target : EventId)
    → is_process q r ≡ false
    → callbacks_in_all (is_resume_of r) (without_waiting target q c) (without_resume e left p x q)
    ≡ callbacks_in_all (is_resume_of r) c (Active e left p x)
others-dropped c e left p q r x target apart =
    in_all-stripped (is_resume_of r) (without_waiting target q c) e left p q x (λ y w. resumes_other q r y apart w) ∙ others-unregister c (Active e left p x) q r target apart

pub others_at-dropped : (c : Calendar) (e : EventId) (left : List Callback) (p q r : ProcId) (x : Signal)
    (target f : EventId) → is_process q r ≡ false
    → count_by (is_resume_of r) (all_callbacks_of (without_waiting target q c) (without_resume e left p x q) f)
    ≡ count_by (is_resume_of r) (all_callbacks_of c (Active e left p x) f)
others_at-dropped c e left p q r x target f apart =
    at-stripped (is_resume_of r) (without_waiting target q c) e f left p q x (λ y w. resumes_other q r y apart w) ∙ others_at-unregister c (Active e left p x) q r target f apart

-- ---- what is lawful stays so

pub registrations_dropped : (c : Calendar) (e : EventId) (left : List Callback) (p q : ProcId) (x : Signal)
    (target : EventId) → LawfulRegistrations c (Active e left p x)
    → LawfulRegistrations (without_waiting target q c) (without_resume e left p x q)
registrations_dropped c e left p q x target h =
    registrations_control (without_waiting target q c) (Active e left p x) (without_resume e left p x q) (λ f w. w) (registrations_taken target (is_resume_of q) c (Active e left p x) h)

pub chains_dropped : (c : Calendar) (e : EventId) (left : List Callback) (p q : ProcId) (x : Signal) (target : EventId)
    → LawfulChains c (Active e left p x) → LawfulChains (without_waiting target q c) (without_resume e left p x q)
chains_dropped c e left p q x target h =
    let d : Calendar = without_waiting target q c in
    chains_control d (Active e left p x) (without_resume e left p x q) (λ f w. w) (λ f w. All-without_first (λ y. chains_well d f y ≡ true) (is_resume_of q) left w) (chains_taken target (is_resume_of q) c (Active e left p x) h)

pub strikes_dropped : (c : Calendar) (e : EventId) (left : List Callback) (p q : ProcId) (x : Signal) (target : EventId)
    → StrikesAlone c (Active e left p x) → StrikesAlone (without_waiting target q c) (without_resume e left p x q)
strikes_dropped c e left p q x target h =
    let d : Calendar = without_waiting target q c in
    let k : Control = Active e left p x in
    let l : Control = without_resume e left p x q in
    let every : Callback → Bool = λ y. true in
    let taken : StrikesAlone d k = strikes_taken target q c k h in
    record {
      alone = λ f counted.
          let same = at-stripped is_strike d e f left p q x (λ y w. resumes_only q y is_strike (λ r. refl) w) in
          let before = alone_parts d k f (taken.alone f (omega (arith, counted, same))) in
          let calls : List Callback = all_callbacks_of d l f in
          alone_from d l f before.0 (omega (arith, counted, before.1, count_by-le-length is_strike calls, length_counts calls, length_counts (all_callbacks_of d k f), at-stripped_less every d e f left p q x));
    }

any_apart : (t u : Callback → Bool) → ((y : Callback) → u y ≡ true → t y ≡ false) → (xs : List Callback)
    → list_any t xs ≡ true → list_any t (without_first u xs) ≡ true
any_apart t u apart [] h = h
any_apart t u apart (y ∷ ys) h =
    let rest : List Callback = without_first u ys in
    cond_both (u y) ys (y ∷ rest) (λ zs. list_any t zs ≡ true) (λ a. ⊎_elim (λ b. absurd (both_ways (t y) (apart y a) b)) (λ b. b) (or_cases (t y) (list_any t ys) h))
    (λ a. ⊎_elim (λ b. or_left (t y) (list_any t rest) b) (λ b. or_right (t y) (list_any t rest) (any_apart t u apart ys b)) (or_cases (t y) (list_any t ys) h))

first_apart : (t u : Callback → Bool) → ((y : Callback) → u y ≡ true → t y ≡ false) → (xs : List Callback)
    → first_passes t xs ≡ true → first_passes t (without_first u xs) ≡ true
first_apart t u apart [] h = h
first_apart t u apart (y ∷ ys) h = cond_both (u y) ys (y ∷ without_first u ys) (λ zs. first_passes t zs ≡ true) (λ a. absurd (both_ways (t y) (apart y a) h)) (λ a. h)

building_apart : (t u : Callback → Bool) → ((y : Callback) → u y ≡ true → t y ≡ false) → (b : Bool) (xs : List Callback)
    → (b && list_any t xs) ≡ true → (b && list_any t (without_first u xs)) ≡ true
building_apart t u apart true xs h = any_apart t u apart xs h
building_apart t u apart false xs h = h

weaker_last : (z o b a d : Bool) → (a ≡ true → d ≡ true) → (z || o && b && a) ≡ true → (z || o && b && d) ≡ true
weaker_last true o b a d keeps h = refl
weaker_last false true true a d keeps h = keeps h
weaker_last false true false a d keeps h = absurd (false≢true h)
weaker_last false false b a d keeps h = absurd (false≢true h)

first_of_calls : (m n : ℕ) (b a d : Bool) → m ≡ n → (a ≡ true → d ≡ true) → ((n == 0) || (n == 1) && b && a) ≡ true → ((m == 0) || (m == 1) && b && d) ≡ true
first_of_calls m n b a d same keeps h = rw same (weaker_last (n == 0) (n == 1) b a d keeps h)

pub conditions_dropped : (c : Calendar) (e : EventId) (left : List Callback) (p q : ProcId) (x : Signal) (target : EventId)
    → ConditionsBasis c (Active e left p x) → ConditionsBasis (without_waiting target q c) (without_resume e left p x q)
conditions_dropped c e left p q x target h =
    let d : Calendar = without_waiting target q c in
    let u : Callback → Bool = is_resume_of q in
    let no_check : (cond : EventId) (y : Callback) → u y ≡ true → is_check_of cond y ≡ false = λ cond y w. resumes_only q y (is_check_of cond) (λ r. refl) w in
    let no_build : (cond : EventId) (y : Callback) → u y ≡ true → is_build_of cond y ≡ false = λ cond y w. resumes_only q y (is_build_of cond) (λ r. refl) w in
    conditions_controlled d (Active e left p x) (without_resume e left p x q) (record {
      checks = λ cond f. called_apart (is_check_of cond) u (no_check cond) (is_same e f) left;
      building = λ cond w. building_apart (is_build_of cond) u (no_build cond) (is_same e cond) left w;
      left = λ cond w. first_of_calls (count_by (is_build_of cond) (without_first u left)) (count_by (is_build_of cond) left) (is_same e cond) (first_passes (is_build_of cond) left) (first_passes (is_build_of cond) (without_first u left))
          (count-apart (is_build_of cond) u (no_build cond) left) (λ a. first_apart (is_build_of cond) u (no_build cond) left a) w;
    }) (conditions_taken target q c (Active e left p x) h)
