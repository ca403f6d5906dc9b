-- What is done to a calendar makes it no shorter, and registers no tries but at resources that there are.
use Rattle.std.proofs.Common.{◌≡◌, ℕ, ◌+◌, ◌≤◌, ℤ, pos, Bool, true, ◌&&◌, not, if◌then◌else◌, length, List, [], ◌∷◌, Option, Some, None, refl, arith, zero, suc}
use Rattle.std.specs.Prelude.{fold}
use Rattle.std.specs.List.{AllPass}
use Rattle.std.proofs.lemmas.List.Elements.{All-push, All-filter}
use Rattle.sim_types.specs.declared.event.EventId.{EventId}
use Rattle.sim_types.specs.declared.event.ProcId.{ProcId}
use Rattle.sim_types.specs.declared.event.Entry.{Entry}
use Rattle.sim_types.specs.declared.event.Callback.{Callback}
use Rattle.sim_types.specs.declared.event.Outcome.{Outcome}
use Rattle.sim_types.specs.declared.event.Throw.{Throw}
use Rattle.sim_types.specs.declared.event.EventKind.{EventKind}
use Rattle.sim_types.specs.declared.event.EventKind.TheVariants as kind
use Rattle.sim_types.specs.declared.event.Outcome.TheVariants as outcome
use Rattle.sim_types.specs.declared.event.Callback.TheVariants as callback
use Rattle.sim_types.specs.declared.setup.Until.{Until}
use Rattle.sim_types.specs.declared.setup.Until.TheVariants as until
use Rattle.sim_machine.specs.State.{AllOrAny, ConditionOf, EventOf, Registration, Calendar}
use Rattle.sim_machine.specs.Events.{is_same, event_at, is_fail, is_pending, is_processed, is_check_of, next_event, change_event, defuse, register, unregister}
use Rattle.sim_machine.specs.Agenda.{popped}
use Rattle.sim_machine.specs.Triggering.{urgent, normal, make, schedule, trigger, make_timeout, make_interruption}
use Rattle.sim_machine.specs.Conditions.{condition_of, condition_at, members_of, is_met, change_condition, count_member, judge, check, join_member, join_members, make_condition, take_checks_within, most_weight, value_of, fix_value, build}
use Rattle.sim_machine.specs.Processes.{defuse_failed, make_events_of_process}
use Rattle.sim_machine.specs.Effect.{pass_on}
use Rattle.sim_machine.specs.Runs.{set_stop}
use Rattle.sim_machine.specs.LawfulTries.{tries_well}
use Rattle.sim_machine_law.proofs.Events.EventLaws.{change_event-length, make-length}
use Rattle.sim_machine_law.proofs.KeptParts.KeptTimesCases.{if_cases}
use Rattle.sim_lawful.proofs.Calendars.TakenOut.{All-without_first}

-- all tries registered are at one of n resources
abbrev pub TryWell : ℕ → List Registration → Type 0
TryWell n rs = AllPass (λ r. tries_well n r.callback) rs

-- no event is lost, and all tries stay at resources that there are
pub record KeepsTries (n : ℕ) (c d : Calendar) : Type 0 where
  pub longer : length c.events ≤ length d.events
  pub tries : TryWell n c.registered → TryWell n d.registered

-- an event is made, it is to call this, and it is scheduled
abbrev pub schedule_new : EventKind → Callback → Outcome → ℕ → ℤ → Calendar → Calendar
schedule_new k y x priority delay c = schedule (next_event c) x priority delay (register (next_event c) y (make k c))

-- checks are taken out of each of these, and of what they are made of, down to this depth
abbrev take_each : ℕ → EventId → Calendar → List EventId → Calendar
take_each depth cond c ms = fold (λ d m. take_checks_within depth m (unregister m (is_check_of cond) d)) c ms

module _ (n : ℕ) where
  pub tries_same : (c : Calendar) → KeepsTries n c c
  tries_same c = record { longer = omega arith; tries = λ h. h }

  pub tries_then : (a b c : Calendar) → KeepsTries n a b → KeepsTries n b c → KeepsTries n a c
  tries_then a b c h k = record { longer = omega (arith, h.longer, k.longer); tries = λ w. k.tries (h.tries w) }

  -- ---- one change

  pub tries_changed : (e : EventId) (change : EventOf → EventOf) (c : Calendar) → KeepsTries n c (change_event e change c)
  tries_changed e change c = record { longer = omega (arith, change_event-length e change c); tries = λ h. h }

  pub tries_made : (k : EventKind) (c : Calendar) → KeepsTries n c (make k c)
  tries_made k c = record { longer = omega (arith, make-length k c); tries = λ h. h }

  pub tries_scheduled : (e : EventId) (x : Outcome) (priority : ℕ) (delay : ℤ) (c : Calendar) → KeepsTries n c (schedule e x priority delay c)
  tries_scheduled e x priority delay c = record { longer = omega (arith, change_event-length e (λ y. record y { outcome = Some x }) c); tries = λ h. h }

  pub tries_registered : (e : EventId) (y : Callback) (c : Calendar) → tries_well n y ≡ true → KeepsTries n c (register e y c)
  tries_registered e y c well =
      record { longer = omega arith; tries = λ h. All-push (λ r. tries_well n r.callback ≡ true) c.registered (record { event = e; callback = y }) h well }

  pub tries_unregistered : (e : EventId) (test : Callback → Bool) (c : Calendar) → KeepsTries n c (unregister e test c)
  tries_unregistered e test c =
      record { longer = omega arith; tries = λ h. All-without_first (λ r. tries_well n r.callback ≡ true) (λ r. is_same r.event e && test r.callback) c.registered h }

  pub tries_popped : (x : Entry) (c : Calendar) → KeepsTries n c (popped x c)
  tries_popped x c =
      record {
        longer = omega (arith, change_event-length x.event (λ y. record y { processed = true }) c);
        tries = λ h. All-filter (λ r. not (is_same r.event x.event)) (λ r. tries_well n r.callback ≡ true) c.registered h;
      }

  -- ---- events

  pub tries_defused : (e : EventId) (c : Calendar) → KeepsTries n c (defuse_failed e c)
  tries_defused e c =
      if_cases (KeepsTries n c) (is_fail (event_at c e).outcome) (defuse e c) c (λ fails. tries_changed e (λ x. record x { defused = true }) c) (λ ok. tries_same c)

  module _ (k : EventKind) (y : Callback) (x : Outcome) (priority : ℕ) (delay : ℤ) where
    pub tries_new : (c : Calendar) → tries_well n y ≡ true → KeepsTries n c (schedule_new k y x priority delay c)
    tries_new c well =
        let d : Calendar = make k c in
        let r : Calendar = register (next_event c) y d in
        tries_then c d (schedule (next_event c) x priority delay r) (tries_made k c) (tries_then d r (schedule (next_event c) x priority delay r) (tries_registered (next_event c) y d well) (tries_scheduled (next_event c) x priority delay r))

  pub tries_timeout : (delay value : ℤ) (c : Calendar) → KeepsTries n c (make_timeout delay value c)
  tries_timeout delay value c =
      tries_then c (make kind.Timeout c) (make_timeout delay value c) (tries_made kind.Timeout c) (tries_scheduled (next_event c) (outcome.Ok value) normal delay (make kind.Timeout c))

  pub tries_interrupted : (p : ProcId) (t : Throw) (c : Calendar) → KeepsTries n c (make_interruption p t c)
  tries_interrupted p t c =
      let e : EventId = next_event c in
      let d : Calendar = register e (callback.Strike p) (make kind.Interrupt c) in
      let f : Calendar = defuse e d in
      tries_then c d (make_interruption p t c) (tries_then c (make kind.Interrupt c) d (tries_made kind.Interrupt c) (tries_registered e (callback.Strike p) (make kind.Interrupt c) refl))
      (tries_then d f (make_interruption p t c) (tries_changed e (λ x. record x { defused = true }) d) (tries_scheduled e (outcome.Fail t) urgent (pos 0) f))

  pub tries_process : (c : Calendar) → KeepsTries n c (make_events_of_process c)
  tries_process c =
      let p : ProcId = record { 0 = (next_event c).0 } in
      let d : Calendar = make kind.Process c in
      tries_then c d (make_events_of_process c) (tries_made kind.Process c) (tries_new kind.Init (callback.Resume p) (outcome.Ok (pos 0)) urgent (pos 0) d refl)

  pub tries_passed : (o : Option Outcome) (y : EventId) (c : Calendar) → KeepsTries n c (pass_on o y c)
  tries_passed None y c = tries_same c
  tries_passed (Some x) y c =
      if_cases (KeepsTries n c) (is_pending c y) (trigger y x c) c (λ pending. tries_scheduled y x normal (pos 0) c) (λ turned. tries_same c)

  pub tries_stopping : (u : Until) (c : Calendar) → KeepsTries n c (set_stop u c)
  tries_stopping until.Never c = tries_same c
  tries_stopping (until.At time) c = tries_new kind.Stop callback.Stop (outcome.Ok (pos 0)) urgent time c refl
  tries_stopping (until.Event e) c = tries_registered e callback.Stop c refl

  -- ---- conditions

  tries_met : (cond : EventId) (c : Calendar) → KeepsTries n c (if is_met (condition_at c cond) then trigger cond (outcome.Ok (pos 0)) c else c)
  tries_met cond c =
      if_cases (KeepsTries n c) (is_met (condition_at c cond)) (trigger cond (outcome.Ok (pos 0)) c) c (λ met. tries_scheduled cond (outcome.Ok (pos 0)) normal (pos 0) c) (λ unmet. tries_same c)

  tries_judged : (cond member : EventId) (o : Option Outcome) (c : Calendar) → KeepsTries n c (judge cond member o c)
  tries_judged cond member (Some (outcome.Fail t)) c =
      tries_then c (defuse member c) (judge cond member (Some (outcome.Fail t)) c) (tries_changed member (λ x. record x { defused = true }) c) (tries_scheduled cond (outcome.Fail t) normal (pos 0) (defuse member c))
  tries_judged cond member (Some (outcome.Ok v)) c = tries_met cond c
  tries_judged cond member None c = tries_met cond c

  tries_part : (e : EventId) (change : ConditionOf → ConditionOf) (c : Calendar) → KeepsTries n c (change_condition e change c)
  tries_part e change c = record { longer = omega (arith, change_event-length e (λ x. record x { condition = Some (change (condition_of x.condition)) }) c); tries = λ h. h }

  pub tries_checked : (cond member : EventId) (c : Calendar) → KeepsTries n c (check cond member c)
  tries_checked cond member c =
      let d : Calendar = count_member cond c in
      let o : Option Outcome = (event_at c member).outcome in
      if_cases (KeepsTries n c) (is_pending c cond) (judge cond member o d) c (λ pending. tries_then c d (judge cond member o d) (tries_part cond (λ x. record x { count = x.count + 1 }) c) (tries_judged cond member o d)) (λ turned. tries_same c)

  tries_joined : (cond : EventId) (ms : List EventId) (c : Calendar) → KeepsTries n c (fold (join_member cond) c ms)
  tries_joined cond [] c = tries_same c
  tries_joined cond (e ∷ es) c =
      let d : Calendar = join_member cond c e in
      tries_then c d (fold (join_member cond) d es)
      (if_cases (KeepsTries n c) (is_processed c e) (check cond e c) (register e (callback.Check cond) c) (λ processed. tries_checked cond e c) (λ waits. tries_registered e (callback.Check cond) c refl))
      (tries_joined cond es d)

  tries_all_joined : (cond : EventId) (ms : List EventId) (c : Calendar) → KeepsTries n c (join_members cond ms c)
  tries_all_joined cond [] c = tries_scheduled cond (outcome.Ok (pos 0)) normal (pos 0) c
  tries_all_joined cond (e ∷ es) c =
      let d : Calendar = fold (join_member cond) c (e ∷ es) in
      tries_then c d (join_members cond (e ∷ es) c) (tries_joined cond (e ∷ es) c) (tries_registered cond (callback.Build cond) d refl)

  pub tries_condition : (sort : AllOrAny) (ms : List EventId) (c : Calendar) → KeepsTries n c (make_condition sort ms c)
  tries_condition sort ms c =
      let cond : EventId = next_event c in
      let d : Calendar = make kind.Cond c in
      let change : EventOf → EventOf = λ x. record x { condition = Some (record { sort = sort; members = ms; count = 0; value = [] }) } in
      let f : Calendar = change_event cond change d in
      tries_then c d (make_condition sort ms c) (tries_made kind.Cond c) (tries_then d f (make_condition sort ms c) (tries_changed cond change d) (tries_all_joined cond ms f))

  abbrev TakesWithin : ℕ → Type 0
  TakesWithin depth = (e : EventId) (c : Calendar) → KeepsTries n c (take_checks_within depth e c)

  tries_taken_at : (depth : ℕ) (cond : EventId) → TakesWithin depth → (ms : List EventId) (c : Calendar) → KeepsTries n c (take_each depth cond c ms)
  tries_taken_at depth cond within [] c = tries_same c
  tries_taken_at depth cond within (m ∷ ms) c =
      let d : Calendar = unregister m (is_check_of cond) c in
      let f : Calendar = take_checks_within depth m d in
      tries_then c f (take_each depth cond f ms)
      (tries_then c d f (tries_unregistered m (is_check_of cond) c) (within m d)) (tries_taken_at depth cond within ms f)

  tries_taken : (depth : ℕ) (cond : EventId) (c : Calendar) → KeepsTries n c (take_checks_within depth cond c)
  tries_taken zero cond c = tries_same c
  tries_taken (suc depth) cond c = tries_taken_at depth cond (tries_taken depth) (members_of c cond) c

  pub tries_built : (cond : EventId) (c : Calendar) → KeepsTries n c (build cond c)
  tries_built cond c =
      let d : Calendar = take_checks_within (most_weight + 1) cond c in
      tries_then c d (build cond c) (tries_taken (most_weight + 1) cond c)
      (if_cases (KeepsTries n d) (is_fail (event_at d cond).outcome) d (fix_value cond d) (λ fails. tries_same d) (λ ok. tries_part cond (λ x. record x { value = value_of cond d }) d))
