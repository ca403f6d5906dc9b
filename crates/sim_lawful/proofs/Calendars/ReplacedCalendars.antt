-- The calendar of a lawful state may be replaced by itself, by one with an event more, a timeout more, or a registration
-- more, and by one where a pending event was triggered.
use Rattle.std.proofs.Common.{◌≡◌, ◌≢◌, ◌<◌, ◌^◌, ℤ, pos, ◌≤ℤ◌, ◌+ℤ◌, true, false, not, length, Option, Some, None, refl, sym, ap, ◌∙◌, arith}
use Rattle.std.specs.Prelude.{is_none}
use Rattle.std.proofs.lemmas.Bool.{false≢true, both_ways, ltb-true}
use Rattle.sim_types.specs.declared.event.EventId.{EventId}
use Rattle.sim_types.specs.declared.event.ProcId.{ProcId}
use Rattle.sim_types.specs.declared.event.EventKind.{EventKind}
use Rattle.sim_types.specs.declared.event.Outcome.{Outcome}
use Rattle.sim_types.specs.declared.event.Callback.{Callback}
use Rattle.sim_types.specs.declared.event.EventKind.TheVariants as kind
use Rattle.sim_types.specs.declared.event.Outcome.TheVariants as outcome
use Rattle.sim_machine.specs.State.{EventOf, Calendar, Waiter, State, Plan}
use Rattle.sim_machine.specs.Events.{event_at, is_pending, is_processed, next_event, is_resume_of, register}
use Rattle.sim_machine.specs.Triggering.{normal, make, trigger, make_timeout}
use Rattle.sim_machine.specs.Effect.{calendar, pass_on}
use Rattle.sim_machine.specs.Tellings.{Telling}
use Rattle.sim_machine.specs.Standing.{was_made, kind_at}
use Rattle.sim_machine.specs.LawfulProcesses.{is_process_kind}
use Rattle.sim_machine.specs.LawfulInterruptions.{is_strike, is_interrupt_kind, is_failed_interruption}
use Rattle.sim_machine.specs.LawfulWaiting.{waits_well, may_wait_kind}
use Rattle.sim_machine.specs.LawfulChains.{is_triggered_kind, chains_well}
use Rattle.sim_machine_law.proofs.Events.EventLaws.{same_event, change_event-other, make-new}
use Rattle.sim_machine_law.proofs.Events.TimeLaws.{make_lawful, timeout_lawful}
use Rattle.sim_machine_law.proofs.KeptParts.KeptTimes.{times_registered, times_triggered}
use Rattle.sim_machine_law.proofs.KeptParts.KeptTimesCases.{if_cases}
use Rattle.sim_machine_law.proofs.KeptParts.KeptRegistrationsCalendar.{pending_unprocessed, later_self, later_made, calm_scheduled}
use Rattle.sim_machine_law.proofs.KeptParts.KeptRegistrations.{registrations_register, registrations_made, registrations_scheduled, registrations_timeout}
use Rattle.sim_machine_law.proofs.KeptParts.KeptProcessesParts.{living-same, living-events, living-made, living-scheduled, living-trans, resumes-same, resumes-registered}
use Rattle.sim_machine_law.proofs.KeptParts.KeptInterruptionsParts.{KeepsHearing, interruptions-strikes, hearing-same, hearing-events, hearing-made, hearing-scheduled, hearing-trans, strikes-kept, strikes-registered}
use Rattle.sim_machine_law.proofs.KeptParts.KeptWaiting.{waits_pending}
use Rattle.sim_machine_law.proofs.KeptParts.KeptCapacities.{later_timeout}
use Rattle.sim_machine_law.proofs.KeptParts.KeptConditions.{IsNoConditions, conditions_registered}
use Rattle.sim_machine_law.proofs.KeptParts.KeptConditionsEvents.{conditions_made, conditions_scheduled}
use Rattle.sim_machine_law.proofs.KeptParts.KeptBodies.{four_parts}
use Rattle.sim_machine_law.proofs.KeptParts.KeptBodiesEvents.{OldStay, grown_itself, grown_old, grown_scheduled, old_itself, old_made, old_timeout}
use Rattle.sim_machine_law.proofs.KeptParts.KeptChains.{chains_register, chains_made, chains_scheduled, chains_timeout}
use Rattle.sim_machine_law.proofs.Events.ChangedCalendars.{MayReplace}
use Rattle.sim_machine_law.proofs.KeptParts.LawfulBasis.{LawfulBasis}
use Rattle.sim_machine_law.proofs.KeptParts.KeptWaitingUnits.{old_pending}
use Rattle.sim_lawful.proofs.Facilities.ChangedQueues.{processed_zero}

pub replace_same : {B : Type 0} (g : Plan B) (tell : Telling B) (sound : B → Type 0) (s : State B) → LawfulBasis g tell sound s → MayReplace s (calendar s)
replace_same g tell sound s l =
    let c : Calendar = calendar s in
    record {
      times = l.times;
      registrations = l.registrations;
      living = living-same c;
      resumes = resumes-same c s.control c s.control refl refl (λ f. refl) (λ p. refl);
      hearing = hearing-same c;
      strikes = interruptions-strikes s l.interruptions;
      grown = grown_itself c;
      pending = waits_pending c;
      later = later_self c c refl;
      conditions = l.conditions;
      chains = l.chains;
    }

-- ---- an event is made

pub waiter_made : (c : Calendar) (w : Waiter) → waits_well c w ≡ true → w.event.0 < length c.events
waiter_made c w h = ltb-true w.event.0 (length c.events) (four_parts (was_made c w.event) (is_pending c w.event) (not (event_at c w.event).cancelled) (may_wait_kind (kind_at c w.event)) h).0

-- it is no interruption
pub replace_made : {B : Type 0} (g : Plan B) (tell : Telling B) (sound : B → Type 0) (s : State B) (k : EventKind)
    → is_interrupt_kind k ≡ false → LawfulBasis g tell sound s → MayReplace s (make k (calendar s))
replace_made g tell sound s k other l =
    let c : Calendar = calendar s in
    let d : Calendar = make k c in
    let old : OldStay c d = old_made k c c (old_itself c) in
    let hearing : KeepsHearing c d = hearing-made k c other in
    record {
      times = make_lawful k c l.times;
      registrations = registrations_made k c s.control l.registrations;
      living = living-made k c;
      resumes = resumes-same c s.control d s.control refl refl (λ f. refl) (λ p. refl);
      hearing = hearing;
      strikes = strikes-kept c s.control d s.control hearing (λ f. refl) (interruptions-strikes s l.interruptions);
      grown = grown_old c d old;
      pending = old_pending c d old;
      later = later_made k c;
      conditions = conditions_made k c s.control l.conditions;
      chains = chains_made k c s.control l.registrations l.chains;
    }

-- a timeout is made, up to the last time
pub replace_timeout : {B : Type 0} (g : Plan B) (tell : Telling B) (sound : B → Type 0) (s : State B) (delay value : ℤ)
    → pos 0 ≤ℤ delay → ((calendar s).time +ℤ delay) ≤ℤ pos (2 ^ 62) → LawfulBasis g tell sound s
    → MayReplace s (make_timeout delay value (calendar s))
replace_timeout g tell sound s delay value low high l =
    let c : Calendar = calendar s in
    let e : EventId = next_event c in
    let made : Calendar = make kind.Timeout c in
    let d : Calendar = make_timeout delay value c in
    let old : OldStay c d = old_timeout delay value c in
    let new : event_at made e ≡ _ = make-new kind.Timeout c in
    let hearing : KeepsHearing c d = hearing-trans c made d (hearing-made kind.Timeout c refl) (hearing-scheduled e (outcome.Ok value) normal delay made (ap (λ (x : EventOf). is_failed_interruption (record x { outcome = Some (outcome.Ok value) })) new)) in
    record {
      times = timeout_lawful delay value c low high l.times;
      registrations = registrations_timeout delay value c s.control l.registrations;
      living = living-trans c made d (living-made kind.Timeout c) (living-scheduled e (outcome.Ok value) normal delay made (ap (λ (x : EventOf). is_process_kind x.kind) new) (λ z. omega (arith, z, l.processes.named_made)));
      resumes = resumes-same c s.control d s.control refl refl (λ f. refl) (λ p. refl);
      hearing = hearing;
      strikes = strikes-kept c s.control d s.control hearing (λ f. refl) (interruptions-strikes s l.interruptions);
      grown = grown_old c d old;
      pending = old_pending c d old;
      later = later_timeout delay value c;
      conditions = conditions_scheduled e (outcome.Ok value) normal delay made s.control (conditions_made kind.Timeout c s.control l.conditions);
      chains = chains_timeout delay value c s.control l.registrations l.chains;
    }

-- ---- a pending event is triggered

triggered_no_process : (k : EventKind) → is_triggered_kind k ≡ true → is_process_kind k ≡ false
triggered_no_process kind.Plain h = refl
triggered_no_process kind.Timeout h = refl
triggered_no_process _ h = absurd (false≢true h)

triggered_no_interrupt : (k : EventKind) → is_triggered_kind k ≡ true → is_interrupt_kind k ≡ false
triggered_no_interrupt kind.Plain h = refl
triggered_no_interrupt kind.Timeout h = refl
triggered_no_interrupt _ h = absurd (false≢true h)

pub triggered_no_waiter : (k : EventKind) → is_triggered_kind k ≡ true → may_wait_kind k ≡ false
triggered_no_waiter kind.Plain h = refl
triggered_no_waiter kind.Timeout h = refl
triggered_no_waiter _ h = absurd (false≢true h)

-- it is plain or a timeout
pub replace_triggered : {B : Type 0} (g : Plan B) (tell : Telling B) (sound : B → Type 0) (s : State B) (e : EventId)
    (x : Outcome) → e.0 < length (calendar s).events → is_triggered_kind (kind_at (calendar s) e) ≡ true
    → is_pending (calendar s) e ≡ true → LawfulBasis g tell sound s → MayReplace s (trigger e x (calendar s))
replace_triggered g tell sound s e x made kinds pending l =
    let c : Calendar = calendar s in
    let d : Calendar = trigger e x c in
    let unprocessed : is_processed c e ≡ false = pending_unprocessed c e l.registrations.outcomes pending in
    let hearing : KeepsHearing c d = hearing-scheduled e x normal (pos 0) c (rw (triggered_no_interrupt (kind_at c e) kinds) refl) in
    let apart : (w : Waiter) → waits_well c w ≡ true → w.event.0 ≢ e.0 = λ w h. λ same.
    let waits : may_wait_kind (kind_at c w.event) ≡ true = (four_parts (was_made c w.event) (is_pending c w.event) (not (event_at c w.event).cancelled) (may_wait_kind (kind_at c w.event)) h).3 in
    both_ways (may_wait_kind (kind_at c e)) (triggered_no_waiter (kind_at c e) kinds) (ap (λ (f : EventId). may_wait_kind (kind_at c f)) (same_event e w.event (sym same)) ∙ waits) in
    record {
      times = times_triggered e x c made pending unprocessed l.times;
      registrations = registrations_scheduled e x normal (pos 0) c s.control l.registrations;
      living = living-scheduled e x normal (pos 0) c (triggered_no_process (kind_at c e) kinds) (processed_zero g tell sound s e l unprocessed);
      resumes = resumes-same c s.control d s.control refl refl (λ f. refl) (λ p. refl);
      hearing = hearing;
      strikes = strikes-kept c s.control d s.control hearing (λ f. refl) (interruptions-strikes s l.interruptions);
      grown = grown_scheduled e x normal (pos 0) c;
      pending = λ w h. ap (λ (y : EventOf). is_none y.outcome) (change_event-other e w.event (λ y. record y { outcome = Some x }) c (apart w h)) ∙ waits_pending c w h;
      later = (calm_scheduled e x normal (pos 0) c).later;
      conditions = conditions_scheduled e x normal (pos 0) c s.control l.conditions;
      chains = chains_scheduled e x normal (pos 0) c s.control l.registrations l.chains;
    }

-- an outcome is passed on to it, if it is pending
pub replace_passed_on : {B : Type 0} (g : Plan B) (tell : Telling B) (sound : B → Type 0) (s : State B) (o : Option Outcome)
    (y : EventId) → y.0 < length (calendar s).events → is_triggered_kind (kind_at (calendar s) y) ≡ true
    → LawfulBasis g tell sound s → MayReplace s (pass_on o y (calendar s))
replace_passed_on g tell sound s None y made kinds l = replace_same g tell sound s l
replace_passed_on g tell sound s (Some x) y made kinds l =
    if_cases (MayReplace s) (is_pending (calendar s) y) (trigger y x (calendar s)) (calendar s) (λ pending. replace_triggered g tell sound s y x made kinds pending l) (λ turned. replace_same g tell sound s l)

-- ---- one callback more is registered

-- it resumes nobody, strikes nobody, is no condition's, passes on well, and stands at an event that is no interruption
pub replace_registered : {B : Type 0} (g : Plan B) (tell : Telling B) (sound : B → Type 0) (s : State B) (e : EventId)
    (x : Callback) → e.0 < length (calendar s).events → is_processed (calendar s) e ≡ false
    → is_interrupt_kind (kind_at (calendar s) e) ≡ false → ((p : ProcId) → is_resume_of p x ≡ false) → is_strike x ≡ false
    → IsNoConditions x → chains_well (calendar s) e x ≡ true → LawfulBasis g tell sound s
    → MayReplace s (register e x (calendar s))
replace_registered g tell sound s e x made unprocessed kinds resumes strikes no_condition well l =
    let c : Calendar = calendar s in
    let d : Calendar = register e x c in
    record {
      times = times_registered d.registered c l.times;
      registrations = registrations_register e x c s.control made unprocessed l.registrations;
      living = living-events c c d refl (living-same c);
      resumes = resumes-registered e x c s.control resumes;
      hearing = hearing-events c c d refl (hearing-same c);
      strikes = strikes-registered e x c s.control strikes kinds (interruptions-strikes s l.interruptions);
      grown = record { longer = omega arith; kinds = λ f m. refl; cancelled = λ f. refl };
      pending = waits_pending c;
      later = later_self c d refl;
      conditions = conditions_registered e x c s.control no_condition l.conditions;
      chains = chains_register e x c s.control well l.chains;
    }
