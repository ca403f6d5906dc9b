-- The changes of which the units of conditions are made, one by one, leave a calendar that may take the place of the
-- state's: one event is changed, or triggered, and a callback is registered.
use Rattle.std.proofs.Common.{◌≡◌, ◌≢◌, ◌<◌, Bool, true, false, ◌&&◌, ◌||◌, not, length, Option, Some, refl, sym, ap, ◌∙◌}
use Rattle.std.specs.Prelude.{is_none, is_some, pos, ◌==◌}
use Rattle.std.specs.List.{list_all}
use Rattle.std.proofs.lemmas.Bool.{false≢true, both_ways}
use Rattle.sim_types.specs.declared.event.EventId.{EventId}
use Rattle.sim_types.specs.declared.event.ProcId.{ProcId}
use Rattle.sim_types.specs.declared.event.EventKind.{EventKind}
use Rattle.sim_types.specs.declared.event.Outcome.{Outcome}
use Rattle.sim_types.specs.declared.event.Callback.{Callback}
use Rattle.sim_types.specs.declared.event.EventKind.TheVariants as kind
use Rattle.sim_machine.specs.State.{ConditionOf, EventOf, Calendar, Waiter, State}
use Rattle.sim_machine.specs.Events.{event_at, is_fail, is_pending, is_processed, change_event, defuse, is_resume_of, register}
use Rattle.sim_machine.specs.Conditions.{condition_of, members_of, change_condition}
use Rattle.sim_machine.specs.Triggering.{normal, trigger}
use Rattle.sim_machine.specs.Standing.{was_made, kind_at, all_callbacks_of}
use Rattle.sim_machine.specs.LawfulProcesses.{is_process_kind}
use Rattle.sim_machine.specs.LawfulInterruptions.{is_strike, is_interrupt_kind, is_unheard_kind, is_failed_interruption}
use Rattle.sim_machine.specs.LawfulWaiting.{waits_well, may_wait_kind}
use Rattle.sim_machine.specs.LawfulChains.{chains_well}
use Rattle.sim_machine_law.proofs.Events.EventLaws.{same_event, change_event-other, change_event-keeps}
use Rattle.sim_machine_law.proofs.Events.TimeLaws.{events_changed}
use Rattle.sim_machine_law.proofs.KeptParts.KeptTimes.{times_registered, times_triggered}
use Rattle.sim_machine_law.proofs.KeptParts.KeptRegistrationsCalendar.{Calm, pending_unprocessed, later_self, later_then, made_below, calm_changed, calm_scheduled}
use Rattle.sim_machine_law.proofs.KeptParts.KeptRegistrations.{registrations_calm, registrations_register, registrations_scheduled}
use Rattle.sim_machine_law.proofs.KeptParts.KeptProcessesParts.{KeepsResumes, living-changed, living-events, living-scheduled, living-trans, resumes-registered}
use Rattle.sim_machine_law.proofs.KeptParts.KeptInterruptionsParts.{list_all-weaker, change_event-passes, strikes-registered}
use Rattle.sim_machine_law.proofs.KeptParts.KeptBodies.{four_parts}
use Rattle.sim_machine_law.proofs.KeptParts.KeptBodiesEvents.{grown_joined, grown_changed, grown_scheduled}
use Rattle.sim_machine_law.proofs.KeptParts.KeptChains.{chains_register, chains_later, chains_scheduled}
use Rattle.sim_lawful.proofs.Calendars.TakenCalendars.{MayTake, hears}
use Rattle.sim_machine_law.proofs.Events.ScheduledOnce.{outcomes_changed}
use Rattle.sim_machine.specs.LawfulConditions.{is_condition_kind}

pub cond_no_process : (k : EventKind) → is_condition_kind k ≡ true → is_process_kind k ≡ false
cond_no_process kind.Cond h = refl
cond_no_process _ h = absurd (false≢true h)

pub cond_no_interrupt : (k : EventKind) → is_condition_kind k ≡ true → is_interrupt_kind k ≡ false
cond_no_interrupt kind.Cond h = refl
cond_no_interrupt _ h = absurd (false≢true h)

pub cond_no_waiter : (k : EventKind) → is_condition_kind k ≡ true → may_wait_kind k ≡ false
cond_no_waiter kind.Cond h = refl
cond_no_waiter _ h = absurd (false≢true h)

-- ---- one event is changed, and only as a condition or by being defused

-- a change that keeps what other parts of the law read
pub record IsQuiet (change : EventOf → EventOf) : Type 0 where
  pub kind : (x : EventOf) → (change x).kind ≡ x.kind
  pub outcome : (x : EventOf) → (change x).outcome ≡ x.outcome
  pub processed : (x : EventOf) → (change x).processed ≡ x.processed
  pub cancelled : (x : EventOf) → (change x).cancelled ≡ x.cancelled

failed_same : (change : EventOf → EventOf) → IsQuiet change → (x : EventOf) → is_failed_interruption (change x) ≡ is_failed_interruption x
failed_same change q x = ap (λ (k : EventKind). not (is_interrupt_kind k) || is_fail (change x).outcome) (q.kind x) ∙ ap (λ (o : Option Outcome). not (is_interrupt_kind x.kind) || is_fail o) (q.outcome x)

triggered_same : (change : EventOf → EventOf) → IsQuiet change → (x : EventOf)
    → (not (is_none (change x).outcome) && not (change x).processed) ≡ (not (is_none x.outcome) && not x.processed)
triggered_same change q x = ap (λ (o : Option Outcome). not (is_none o) && not (change x).processed) (q.outcome x) ∙ ap (λ (p : Bool). not (is_none x.outcome) && not p) (q.processed x)

quiet_calm : (e : EventId) (change : EventOf → EventOf) (d : Calendar) → IsQuiet change → Calm d (change_event e change d)
quiet_calm e change d q = calm_changed e change d q.kind q.processed (λ x h. ap (λ (o : Option Outcome). not (is_none o)) (q.outcome x) ∙ h)

-- all members may be waited for afterwards
pub take_changed : {B : Type 0} (s : State B) (e : EventId) (change : EventOf → EventOf) (d : Calendar) → IsQuiet change
    → ((f : EventId) → list_all (hears d) (members_of (change_event e change d) f) ≡ true) → MayTake s d
    → MayTake s (change_event e change d)
take_changed s e change d q heard h =
    let c : Calendar = s.facilities.calendar in
    let n : Calendar = change_event e change d in
    let calm : Calm d n = quiet_calm e change d q in
    let kinds : (f : EventId) → kind_at n f ≡ kind_at d f = λ f. change_event-keeps (λ x. x.kind) e f change d q.kind in
    record {
      times = events_changed d n.events (λ f. change_event-keeps (λ x. not (is_none x.outcome) && not x.processed) e f change d (triggered_same change q)) (outcomes_changed e change d (λ x. ap is_some (q.outcome x))) h.times;
      registrations = registrations_calm d n s.control calm refl h.registrations;
      living = living-trans c d n h.living (living-changed e change d q.kind q.outcome (λ x w. q.processed x ∙ w));
      resumes = record { active = h.resumes.active; in_all = h.resumes.in_all; at = h.resumes.at };
      failed = λ f. change_event-keeps is_failed_interruption e f change d (failed_same change q) ∙ h.failed f;
      heard = λ f. list_all-weaker (hears d) (hears n) (members_of n f) (λ m w. ap (λ (k : EventKind). not (is_unheard_kind k)) (kinds m) ∙ w) (heard f);
      strikes = record { alone = λ f counted. ap (λ (k : EventKind). is_interrupt_kind k && (length (all_callbacks_of d s.control f) == 1)) (kinds f) ∙ h.strikes.alone f counted };
      grown = grown_joined c d n h.grown (grown_changed e change d q.kind q.cancelled);
      pending = λ w waits. change_event-keeps (λ x. is_none x.outcome) e w.event change d (λ x. ap is_none (q.outcome x)) ∙ h.pending w waits;
      later = later_then c d n h.later calm.later;
      chains = chains_later d n s.control calm.later refl h.registrations h.chains;
    }

defuse_is_quiet : IsQuiet (λ x. record x { defused = true })
defuse_is_quiet = record { kind = λ x. refl; outcome = λ x. refl; processed = λ x. refl; cancelled = λ x. refl }

pub take_defused : {B : Type 0} (s : State B) (e : EventId) (d : Calendar) → MayTake s d → MayTake s (defuse e d)
take_defused s e d h =
    let change : EventOf → EventOf = λ x. record x { defused = true } in
    take_changed s e change d defuse_is_quiet (λ f. ap (list_all (hears d)) (change_event-keeps (λ x. (condition_of x.condition).members) e f change d (λ x. refl)) ∙ h.heard f) h

condition_is_quiet : (change : ConditionOf → ConditionOf) → IsQuiet (λ x. record x { condition = Some (change (condition_of x.condition)) })
condition_is_quiet change = record { kind = λ x. refl; outcome = λ x. refl; processed = λ x. refl; cancelled = λ x. refl }

-- a condition is changed, and not its members
pub take_condition : {B : Type 0} (s : State B) (e : EventId) (change : ConditionOf → ConditionOf) (d : Calendar)
    → ((x : ConditionOf) → (change x).members ≡ x.members) → MayTake s d → MayTake s (change_condition e change d)
take_condition s e change d members h =
    let changed : EventOf → EventOf = λ x. record x { condition = Some (change (condition_of x.condition)) } in
    take_changed s e changed d (condition_is_quiet change) (λ f. ap (list_all (hears d)) (change_event-keeps (λ x. (condition_of x.condition).members) e f changed d (λ x. members (condition_of x.condition))) ∙ h.heard f) h

-- ---- a condition that is pending is triggered

pub take_triggered : {B : Type 0} (s : State B) (e : EventId) (x : Outcome) (d : Calendar) → e.0 < length d.events → e.0 ≢ 0
    → is_condition_kind (kind_at d e) ≡ true → is_pending d e ≡ true → MayTake s d → MayTake s (trigger e x d)
take_triggered s e x d made nonzero kinds pending h =
    let c : Calendar = s.facilities.calendar in
    let n : Calendar = trigger e x d in
    let change : EventOf → EventOf = λ y. record y { outcome = Some x } in
    let calm : Calm d n = calm_scheduled e x normal (pos 0) d in
    let same_kind : (f : EventId) → kind_at n f ≡ kind_at d f = λ f. change_event-keeps (λ y. y.kind) e f change d (λ y. refl) in
    let apart : (w : Waiter) → waits_well c w ≡ true → w.event.0 ≢ e.0 = λ w waits. λ same.
    let parts = four_parts (was_made c w.event) (is_pending c w.event) (not (event_at c w.event).cancelled) (may_wait_kind (kind_at c w.event)) waits in
    both_ways (may_wait_kind (kind_at d e)) (cond_no_waiter (kind_at d e) kinds) (ap (λ (f : EventId). may_wait_kind (kind_at d f)) (same_event e w.event (sym same)) ∙ (ap may_wait_kind (h.grown.kinds w.event (made_below c w.event parts.0)) ∙ parts.3)) in
    record {
      times = times_triggered e x d made pending (pending_unprocessed d e h.registrations.outcomes pending) h.times;
      registrations = registrations_scheduled e x normal (pos 0) d s.control h.registrations;
      living = living-trans c d n h.living (living-scheduled e x normal (pos 0) d (cond_no_process (kind_at d e) kinds) nonzero);
      resumes = record { active = h.resumes.active; in_all = h.resumes.in_all; at = h.resumes.at };
      failed = λ f. change_event-passes is_failed_interruption e f change d (rw (cond_no_interrupt (kind_at d e) kinds) refl) (h.failed f);
      heard = λ f. ap (list_all (hears n)) (change_event-keeps (λ y. (condition_of y.condition).members) e f change d (λ y. refl)) ∙ list_all-weaker (hears d) (hears n) (members_of d f) (λ m w. ap (λ (k : EventKind). not (is_unheard_kind k)) (same_kind m) ∙ w) (h.heard f);
      strikes = record { alone = λ f counted. ap (λ (k : EventKind). is_interrupt_kind k && (length (all_callbacks_of d s.control f) == 1)) (same_kind f) ∙ h.strikes.alone f counted };
      grown = grown_joined c d n h.grown (grown_scheduled e x normal (pos 0) d);
      pending = λ w waits. ap (λ (y : EventOf). is_none y.outcome) (change_event-other e w.event change d (apart w waits)) ∙ h.pending w waits;
      later = later_then c d n h.later calm.later;
      chains = chains_scheduled e x normal (pos 0) d s.control h.registrations h.chains;
    }

-- ---- a callback is registered that resumes nobody and strikes nobody, at an event that is no interruption

resumes_joined : {B : Type 0} (s : State B) (d n : Calendar) → KeepsResumes s.facilities.calendar s.control d s.control
    → KeepsResumes d s.control n s.control → KeepsResumes s.facilities.calendar s.control n s.control
resumes_joined s d n h w = record { active = λ p. w.active p ∙ h.active p; in_all = λ p. w.in_all p ∙ h.in_all p; at = λ p e. w.at p e ∙ h.at p e }

pub take_registered : {B : Type 0} (s : State B) (e : EventId) (x : Callback) (d : Calendar) → e.0 < length d.events
    → is_processed d e ≡ false → is_interrupt_kind (kind_at d e) ≡ false → ((p : ProcId) → is_resume_of p x ≡ false)
    → is_strike x ≡ false → chains_well d e x ≡ true → MayTake s d → MayTake s (register e x d)
take_registered s e x d made unprocessed kinds resumes strikes well h =
    let c : Calendar = s.facilities.calendar in
    let n : Calendar = register e x d in
    record {
      times = times_registered n.registered d h.times;
      registrations = registrations_register e x d s.control made unprocessed h.registrations;
      living = living-events c d n refl h.living;
      resumes = resumes_joined s d n h.resumes (resumes-registered e x d s.control resumes);
      failed = h.failed;
      heard = h.heard;
      strikes = strikes-registered e x d s.control strikes kinds h.strikes;
      grown = record { longer = h.grown.longer; kinds = h.grown.kinds; cancelled = h.grown.cancelled };
      pending = h.pending;
      later = later_then c d n h.later (later_self d n refl);
      chains = chains_register e x d s.control well h.chains;
    }
