-- What the callbacks of conditions are called for is known of each lawful state.
use Rattle.std.proofs.Common.{◌≡◌, ◌<◌, ◌≤◌, true, ◌&&◌, ◌||◌, not, List, ◌∷◌, length, None, refl, sym, ap, subst, ◌∙◌, arith}
use Rattle.std.specs.Prelude.{is_none, is_some}
use Rattle.std.specs.List.{list_any, AllPass}
use Rattle.std.proofs.lemmas.Bool.{ltb-true}
use Rattle.std.proofs.lemmas.List.Elements.{All-head}
use Rattle.sim_types.specs.declared.event.EventId.{EventId}
use Rattle.sim_types.specs.declared.event.Callback.{Callback}
use Rattle.sim_types.specs.declared.event.Callback.TheVariants as callback
use Rattle.sim_machine.specs.State.{EventOf, Calendar, Control, Calling, State}
use Rattle.sim_machine.specs.Events.{is_same, event_at, is_check_of}
use Rattle.sim_machine.specs.Conditions.{condition_of, is_condition, members_of}
use Rattle.sim_machine.specs.Scopes.{on_events}
use Rattle.sim_machine.specs.Bodies.{BodyOf}
use Rattle.sim_machine.specs.Standing.{kind_at, left_of}
use Rattle.sim_machine.specs.LawfulConditions.{builds_condition, checks_at, is_below_all}
use Rattle.sim_machine_law.proofs.Events.EventLaws.{is_same-self}
use Rattle.sim_machine_law.proofs.Events.CallbackLaws.{counts_one, callbacks_at-called}
use Rattle.sim_machine_law.proofs.KeptParts.KeptInterruptionsParts.{any_counted}
use Rattle.sim_lawful.proofs.ConditionLaws.CalledCheck.{HasMember, checks_member}
use Rattle.sim_lawful.proofs.Calendars.ConditionKinds.{condition_kind}
use Rattle.sim_lawful.proofs.Following.FollowingCalendars.{uncancelled_kind}
use Rattle.sim_machine_law.proofs.KeptParts.LawfulBasis.{ConditionsBasis, basis_of}
use Rattle.sim_lawful.proofs.Calendars.TakenChanges.{cond_no_waiter}
use Rattle.sim_happen_model.specs.TableOf.{AreNeeded, IsKept, kept_at}
use Rattle.sim_happen_model.specs.HappenOf.{HappenOf}
use Rattle.sim_happen_model.specs.Shows.{Follows}
use Rattle.sim_happen_law.proofs.Changes.Following.{read_is}
use Rattle.sim_happen_model.specs.HolderChanges.{ComesPlainly}
use Rattle.sim_steps_model.specs.PartsOf.{PartsOf, plan_of, with_happen}
use Rattle.sim_steps_model.specs.StandsFor.{StandsForSome}
use Rattle.sim_steps_model.specs.Becoming.{Becomes}
use Rattle.sim_steps_model.specs.Calling.{TakesCallback}
use Rattle.sim_steps_model.specs.Conditions.{BuildsCondition, CallsCondition, ChecksMember}
use Rattle.sim_steps_law.proofs.Kernels.Becoming.{becomes_followed}
use Rattle.sim_steps_law.proofs.Kernels.KeptNames.{called_kept, kept_here}

-- ---- what is checked

-- who bears a check of a condition is a member of it
member_checked : (c : Calendar) (e cond : EventId) (left : List Callback) → ConditionsBasis c (Calling e (callback.Check cond ∷ left)) →
    list_any (is_same e) (members_of c cond) ≡ true
member_checked c e cond left h =
    let before : Control = Calling e (callback.Check cond ∷ left) in
    let once : 1 ≤ checks_at c before cond e =
    omega (
      arith,
      callbacks_at-called (is_check_of cond) c before (Calling e left) (callback.Check cond) e refl refl,
      counts_one (is_same e e && is_same cond cond) (rw (is_same-self e, is_same-self cond) refl),
    ) in
    any_counted (is_same e) (members_of c cond) (omega (arith, once, h.checks cond e))

-- a pending condition has not counted all
below_all : (x : EventOf) → is_some x.condition ≡ true →
    (not (is_some x.condition && is_none x.outcome) || is_below_all (condition_of x.condition)) ≡ true → x.outcome ≡ None →
    (condition_of x.condition).count < length (condition_of x.condition).members
below_all x is h pending =
    ltb-true (condition_of x.condition).count (length (condition_of x.condition).members) (rw (is, pending) at h)

module _ {B Code : Type 0} (body : BodyOf B Code) (parts : PartsOf B Code) (h : StandsForSome body parts)
    (needed : AreNeeded parts.shared.happen.events) where
  read_here : (e : EventId) → IsKept parts.shared.happen.events e →
      (kept_at parts.shared.happen.events e).event ≡ event_at h.state.facilities.calendar e
  read_here e kept = read_is parts.shared.happen h.state.facilities.calendar e kept h.stands.facilities.calendar

  checks_known : (event cond : EventId) (left : List Callback) → parts.control ≡ Calling event (callback.Check cond ∷ left) →
      ChecksMember cond event parts.shared.happen.events
  checks_known event cond left is =
      let s : State B = h.state in
      let c : Calendar = s.facilities.calendar in
      let basis = (basis_of (plan_of body parts) (body.tell parts.code) (body.sound parts.code) s h.lawful).conditions in
      let calling : s.control ≡ Calling event (callback.Check cond ∷ left) = sym h.stands.control ∙ is in
      let has : HasMember c cond event = checks_member c s.control event cond left calling basis in
      let kept = kept_here body parts h needed cond (called_kept body parts h needed event (callback.Check cond) left is) in
      let read = read_here cond kept in
      let P : EventOf → Type 0 = λ x. x.outcome ≡ None → (condition_of x.condition).count < length (condition_of x.condition).members in
      record {
        kept = kept;
        not_cancelled =
            ap (λ (x : EventOf). x.cancelled) read
            ∙ uncancelled_kind (event_at c cond) (h.lawful.waiting.cancelled cond.0 _ has.made)
            (cond_no_waiter (kind_at c cond) (condition_kind c cond h.lawful.conditions.kinds has.is));
        member =
            ap (λ (x : EventOf). list_any (is_same event) (condition_of x.condition).members) read
            ∙ member_checked c event cond left (subst (λ k. ConditionsBasis c k) calling basis);
        counts = subst P (sym read) (below_all (event_at c cond) has.is (h.lawful.conditions.counts cond));
      }

  -- ---- what is built

  builds_known : (event cond : EventId) (left : List Callback) → parts.control ≡ Calling event (callback.Build cond ∷ left) →
      BuildsCondition cond parts.shared.happen.events
  builds_known event cond left is =
      let s : State B = h.state in
      let c : Calendar = s.facilities.calendar in
      let calling : s.control ≡ Calling event (callback.Build cond ∷ left) = sym h.stands.control ∙ is in
      let builds : AllPass (builds_condition c) (callback.Build cond ∷ left) =
      subst (λ k. AllPass (builds_condition c) (left_of k)) calling h.lawful.conditions.left_builds in
      let built : is_condition c cond ≡ true = All-head (λ x. builds_condition c x ≡ true) (callback.Build cond) left builds in
      let kept = kept_here body parts h needed cond (called_kept body parts h needed event (callback.Build cond) left is) in
      record { kept = kept; is = ap (λ (x : EventOf). is_some x.condition) (read_here cond kept) ∙ built }

  -- what a callback is called for, whatever it is
  pub condition_known : (event : EventId) (x : Callback) (left : List Callback) → parts.control ≡ Calling event (x ∷ left) →
      CallsCondition event x parts.shared.happen.events
  condition_known event (callback.Check cond) left is = checks_known event cond left is
  condition_known event (callback.Build cond) left is = builds_known event cond left is
  condition_known event _ left is = tt

-- ---- what is called

-- it stays so where the callback is taken out of those that are left to call
pub condition_taken : {B Code : Type 0} (a m : PartsOf B Code) (event : EventId) (x : Callback) → TakesCallback event x a m →
    CallsCondition event x a.shared.happen.events → CallsCondition event x m.shared.happen.events
condition_taken a m event x t h = subst (λ events. CallsCondition event x events) (sym (ap (λ (y : HappenOf). y.events) t.happen)) h

-- only what happens is changed
pub followed_becomes : {B Code : Type 0} {body : BodyOf B Code} (change : Calendar → Calendar) (a n : PartsOf B Code) (x : HappenOf) →
    ((c : Calendar) → ComesPlainly c (change c)) →
    Follows change a.shared.happen x → n ≡ with_happen x a → Becomes body (on_events change) a n
followed_becomes {B} {Code} {body} change a n x plainly follows is =
    subst (Becomes body (on_events change) a) (sym is) (becomes_followed change a x plainly follows)
