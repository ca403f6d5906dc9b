-- The call that checks a member of a condition keeps the state lawful.
use Rattle.std.proofs.Common.{◌≡◌, ℕ, ◌+◌, ◌<◌, ◌≤◌, Bool, true, false, ◌&&◌, ◌||◌, not, List, [], ◌∷◌, length, Option, Some, None, refl, sym, ap, subst, ◌∙◌, arith, inl, inr}
use Rattle.std.specs.Prelude.{is_some, count_by, nat_lt, nat_le, ◌==◌}
use Rattle.std.specs.List.{list_any, list_all}
use Rattle.std.proofs.lemmas.Bool.{and_parts, ltb-true, lt-ltb, cases_Bool}
use Rattle.sim_types.specs.declared.event.EventId.{EventId}
use Rattle.sim_types.specs.declared.event.Callback.{Callback}
use Rattle.sim_types.specs.declared.event.Callback.TheVariants as callback
use Rattle.sim_machine.specs.State.{ConditionOf, Calendar, Control, Calling, State, Plan}
use Rattle.sim_machine.specs.Events.{is_same, event_at, is_processed, is_check_of}
use Rattle.sim_machine.specs.Conditions.{condition_of, is_condition, members_of, most_weight, weight_within, check}
use Rattle.sim_machine.specs.Effect.{calendar}
use Rattle.sim_machine.specs.Steps.{call}
use Rattle.sim_machine.specs.Tellings.{Telling}
use Rattle.sim_machine.specs.Standing.{one_if}
use Rattle.sim_machine.specs.LawfulConditions.{is_build_of, checks_at, times_member, is_empty, first_passes}
use Rattle.sim_machine_law.proofs.Events.EventLaws.{is_same-self, is_same-yes}
use Rattle.sim_machine_law.proofs.Events.CallbackLaws.{count_by-cons, counts_one, counts_none, callbacks_at-called}
use Rattle.sim_machine_law.proofs.KeptParts.KeptRegistrationsCalendar.{made_if}
use Rattle.sim_machine_law.proofs.KeptParts.KeptConditions.{first_failing, older_everywhere}
use Rattle.sim_lawful.proofs.Calendars.TakenCalendars.{MayTake, take_replaced, lawful_taken_called}
use Rattle.sim_lawful.proofs.Calendars.ReplacedCalendars.{replace_same}
use Rattle.sim_lawful.proofs.ConditionLaws.CheckedConditions.{conditions_checked, take_checked}
use Rattle.sim_lawful.proofs.Calendars.ConditionKinds.{condition_kind}
use Rattle.sim_machine_law.proofs.KeptParts.LawfulBasis.{AreConditionsByKind, ConditionsBasis, LawfulBasis}

-- ---- who is checked is a member

-- what a member of a condition tells of it
pub record HasMember (c : Calendar) (cond e : EventId) : Type 0 where
  pub older : e.0 < cond.0
  pub some : is_empty (members_of c cond) ≡ false
  pub made : cond.0 < length c.events
  pub is : is_condition c cond ≡ true

counted_older : (e : EventId) (n : ℕ) (ms : List EventId) → 1 ≤ count_by (is_same e) ms → list_all (λ f. nat_lt f.0 n) ms ≡ true → e.0 < n
counted_older e n [] one older = absurd (omega (arith, one))
counted_older e n (m ∷ ms) one older =
    let both = and_parts (nat_lt m.0 n) (list_all (λ f. nat_lt f.0 n) ms) older in
    elim (cases_Bool (is_same e m)) [
      | inl same ↦ subst (λ (f : EventId). f.0 < n) (sym (is_same-yes e m same)) (ltb-true m.0 n both.0)
      | inr differ ↦ counted_older e n ms (omega (arith, one, count_by-cons (is_same e) m ms, counts_none (is_same e m) differ)) both.1
    ]

counted_some : (e : EventId) (ms : List EventId) → 1 ≤ count_by (is_same e) ms → is_empty ms ≡ false
counted_some e [] one = absurd (omega (arith, one))
counted_some e (m ∷ ms) one = refl

pub has_some : (o : Option ConditionOf) → is_empty (condition_of o).members ≡ false → is_some o ≡ true
has_some None h = sym h
has_some (Some y) h = refl

pub has_member : (c : Calendar) (k : Control) (cond e : EventId) → ConditionsBasis c k → 1 ≤ times_member c cond e → HasMember c cond e
has_member c k cond e h one =
    let ms : List EventId = members_of c cond in
    let older = and_parts (list_all (λ (f : EventId). nat_lt f.0 cond.0) ms) (nat_le (weight_within (most_weight + 1) c cond) most_weight) (older_everywhere c k cond h) in
    let some : is_empty ms ≡ false = counted_some e ms one in
    record {
      older = counted_older e cond.0 ms one older.0;
      some = some;
      made = made_if (λ x. not (is_empty (condition_of x.condition).members)) c cond refl (ap not some);
      is = has_some (event_at c cond).condition some;
    }

-- ---- the check is called no more

pub still_building : (p : Callback → Bool) (a b : Bool) (x : Callback) (xs : List Callback) → p x ≡ false
    → (a || b && list_any p (x ∷ xs)) ≡ true → (a || b && list_any p xs) ≡ true
still_building p true b x xs h w = refl
still_building p false true x xs h w = rw h at w
still_building p false false x xs h w = w

-- of the callbacks of e the first was called, and it builds nothing
conditions_called : (c : Calendar) (e : EventId) (x : Callback) (left : List Callback)
    → ((cond : EventId) → is_build_of cond x ≡ false) → ConditionsBasis c (Calling e (x ∷ left))
    → ConditionsBasis c (Calling e left)
conditions_called c e x left no_build h =
    let before : Control = Calling e (x ∷ left) in
    let after : Control = Calling e left in
    let counted : (cond f : EventId) → checks_at c before cond f ≡ one_if (is_same e f && is_check_of cond x) + checks_at c after cond f = λ cond f. callbacks_at-called (is_check_of cond) c before after x f refl refl in
    record {
      members = h.members;
      counts = h.counts;
      checks = λ cond f. omega (arith, h.checks cond f, counted cond f);
      unbuilt = λ cond f some. still_building (is_build_of cond) (not (is_processed c cond)) (is_same e cond) x left (no_build cond)
          (h.unbuilt cond f (lt-ltb 0 (checks_at c before cond f) (omega (arith, counted cond f, ltb-true 0 (checks_at c after cond f) some))));
      builds = h.builds;
      first = h.first;
      left = λ cond.
          let count : ℕ = count_by (is_build_of cond) left in
          let same : count_by (is_build_of cond) (x ∷ left) ≡ count = omega (arith, count_by-cons (is_build_of cond) x left, counts_none (is_build_of cond x) (no_build cond)) in
          first_failing ((count == 1) && is_same e cond && first_passes (is_build_of cond) left) (is_same e cond) (is_build_of cond x) count (no_build cond)
          (ap (λ (m : ℕ). (m == 0) || (m == 1) && is_same e cond && is_build_of cond x) (sym same) ∙ h.left cond);
    }

-- what is checked is a condition of the event that is processed
pub checks_member : (c : Calendar) (k : Control) (e cond : EventId) (left : List Callback)
    → k ≡ Calling e (callback.Check cond ∷ left) → ConditionsBasis c k → HasMember c cond e
checks_member c k e cond left calling h =
    let before : Control = Calling e (callback.Check cond ∷ left) in
    let conditions : ConditionsBasis c before = subst (λ m. ConditionsBasis c m) calling h in
    let once : 1 ≤ checks_at c before cond e = omega (arith, callbacks_at-called (is_check_of cond) c before (Calling e left) (callback.Check cond) e refl refl, counts_one (is_same e e && is_same cond cond) (rw (is_same-self e, is_same-self cond) refl)) in
    has_member c before cond e conditions (omega (arith, once, conditions.checks cond e))

pub lawful-called_check : {B : Type 0} (g : Plan B) (tell : Telling B) (sound : B → Type 0) (s : State B) (e : EventId)
    (cond : EventId) (left : List Callback) → AreConditionsByKind (calendar s)
    → s.control ≡ Calling e (callback.Check cond ∷ left) → LawfulBasis g tell sound s
    → LawfulBasis g tell sound (call g e (callback.Check cond) left s)
lawful-called_check g tell sound s e cond left kinds calling h =
    let c : Calendar = calendar s in
    let before : Control = Calling e (callback.Check cond ∷ left) in
    let conditions : ConditionsBasis c before = subst (λ k. ConditionsBasis c k) calling h.conditions in
    let has : HasMember c cond e = checks_member c s.control e cond left calling h.conditions in
    let take : MayTake s c = take_replaced g tell sound s c h (replace_same g tell sound s h) in
    lawful_taken_called g tell sound s e (callback.Check cond) left (check cond e) calling (λ p. refl) h
    (take_checked s cond e c has.made (λ zero. omega (arith, zero, has.older)) (condition_kind c cond kinds has.is) take)
    (conditions_called (check cond e c) e (callback.Check cond) left (λ f. refl) (conditions_checked cond e c before has.made has.is conditions))
