-- Each unit keeps lawful registrations.
use Rattle.std.proofs.Common.{◌≡◌, ◌≢◌, ℕ, ◌+◌, ◌<◌, ◌≤◌, ℤ, pos, true, false, ◌&&◌, ◌||◌, not, length, List, [], ◌∷◌, Option, Some, None, refl, sym, ap, subst, ◌∙◌, arith}
use Rattle.std.specs.Prelude.{is_none, is_some, ◌==◌, nat_lt, nat_le, slice_index_or, replicate}
use Rattle.std.specs.Bool.{IsTrue}
use Rattle.std.proofs.lemmas.Bool.{and_parts, and_from, not-true, not_from_false, false≢true}
use Rattle.std.proofs.lemmas.Bool.Decides.{nat_tests}
use Rattle.std.proofs.lemmas.List.Elements.{All-weaker, All-same, All-push, All-filter, filter_passes, All-cons, All-replicate}
use Rattle.sim_types.specs.declared.event.EventId.{EventId}
use Rattle.sim_types.specs.declared.event.ProcId.{ProcId}
use Rattle.sim_types.specs.declared.event.Entry.{Entry}
use Rattle.sim_types.specs.declared.event.Callback.{Callback}
use Rattle.sim_types.specs.declared.event.Outcome.{Outcome}
use Rattle.sim_types.specs.declared.event.Signal.{Signal}
use Rattle.sim_types.specs.declared.event.EventKind.{EventKind}
use Rattle.sim_types.specs.declared.event.EventKind.TheVariants as kind
use Rattle.sim_types.specs.declared.event.Outcome.TheVariants as outcome
use Rattle.sim_types.specs.declared.event.Callback.TheVariants as callback
use Rattle.sim_types.specs.declared.line.End.TheVariants as end
use Rattle.sim_types.specs.declared.setup.Until.{Until}
use Rattle.sim_types.specs.declared.setup.Until.TheVariants as until
use Rattle.sim_machine.specs.State.{EventOf, Registration, Calendar, Control, State, ProcessOf, Plan, Idle, Calling, Active, Over}
use Rattle.sim_machine.specs.Events.{is_same, event_at, is_pending, is_processed, pending_event, next_event, register}
use Rattle.sim_machine.specs.Agenda.{due, popped}
use Rattle.sim_machine.specs.Triggering.{urgent, normal, make, schedule, trigger, make_timeout}
use Rattle.sim_machine.specs.Scopes.{on_events}
use Rattle.sim_machine.specs.Processes.{event_of, process_at, with_body, told_more, not_active, rest, defuse_failed, wait, make_process, end_process}
use Rattle.sim_machine.specs.Effect.{calendar}
use Rattle.sim_machine.specs.Steps.{pop_entry, resume, call, is_crash, settle, end_at}
use Rattle.sim_machine.specs.Runs.{event_zero, blank_state, set_stop}
use Rattle.sim_machine.specs.Tellings.{Telling, CodeFacts}
use Rattle.sim_machine.specs.BodyLaw.{IsLawfulStart, scopes_told, may_start}
use Rattle.sim_machine.specs.Setups.{FitsCode, until_fits}
use Rattle.sim_machine.specs.Standing.{was_made, is_event_of}
use Rattle.sim_machine.specs.LawfulRegistrations.{LawfulRegistrations, awaits_processing, turned_out}
use Rattle.sim_machine_law.proofs.Events.EventLaws.{is_same-yes, change_event-same, change_event-other, change_event-AllPass, make-length, make-new}
use Rattle.sim_machine_law.proofs.KeptParts.KeptRegistrationsCalendar.{Calm, below_made, made_below, later_popped, calm_made, calm_scheduled, calm_defuse_failed}
use Rattle.sim_machine_law.proofs.KeptParts.KeptTimesCases.{if_cases, wait_cases}
use Rattle.sim_machine_law.proofs.KeptParts.KeptTimes.{due_triggered, due_made}
use Rattle.sim_machine_law.proofs.KeptParts.LawfulBasis.{AreNamedPending, LawfulBasis}
use Rattle.sim_machine_law.proofs.KeptParts.KeptProcesses.{registered-defused}

-- ---- the calendar or the control is changed

-- a calm change that leaves the registrations
pub registrations_calm : (c d : Calendar) (control : Control) → Calm c d → d.registered ≡ c.registered
    → LawfulRegistrations c control → LawfulRegistrations d control
registrations_calm c d control calm same h =
    record {
      unprocessed = All-same (λ r. awaits_processing d r ≡ true) d.registered c.registered same (All-weaker (λ r. awaits_processing c r ≡ true) (λ r. awaits_processing d r ≡ true) (λ r k. awaits r.event (and_parts _ _ k)) c.registered h.unprocessed);
      processing = λ e k. calm.processed e ∙ h.processing e k;
      outcomes = calm.outcomes h.outcomes;
    }
  where
    awaits : (e : EventId) → (was_made c e ≡ true) × (not (is_processed c e) ≡ true) → (was_made d e && not (is_processed d e)) ≡ true
    awaits e k =
        let longer : length c.events ≤ length d.events = calm.later.longer in
        and_from _ _ (below_made d e (omega (arith, made_below c e k.0, longer))) (rw (calm.processed e) k.1)

-- a registration at an event that was made and is not processed
pub registrations_register : (e : EventId) (x : Callback) (c : Calendar) (control : Control) → e.0 < length c.events
    → is_processed c e ≡ false → LawfulRegistrations c control → LawfulRegistrations (register e x c) control
registrations_register e x c control made unprocessed h =
    let new : Registration = record { event = e; callback = x } in
    record {
      unprocessed = All-push (λ r. awaits_processing c r ≡ true) c.registered new h.unprocessed (and_from _ _ (below_made c e made) (not_from_false _ unprocessed));
      processing = h.processing;
      outcomes = h.outcomes;
    }

-- a control that speaks of no other events
pub registrations_control : (c : Calendar) (old new : Control)
    → ((e : EventId) → is_event_of new e ≡ true → is_event_of old e ≡ true) → LawfulRegistrations c old
    → LawfulRegistrations c new
registrations_control c old new fewer h = record { unprocessed = h.unprocessed; processing = λ e k. h.processing e (fewer e k); outcomes = h.outcomes }

pub event_of_told : (x : Signal) (c : Control) (e : EventId) → is_event_of (told_more x c) e ≡ is_event_of c e
event_of_told x Idle e = refl
event_of_told x (Calling f left) e = refl
event_of_told x (Active f left p y) e = refl
event_of_told x (Over why f left) e = refl

pub event_of_rest : (c : Control) (e : EventId) → is_event_of (not_active c) e ≡ is_event_of c e
event_of_rest Idle e = refl
event_of_rest (Calling f left) e = refl
event_of_rest (Active f left p y) e = refl
event_of_rest (Over why f left) e = refl

pub registrations_told : (x : Signal) (c : Calendar) (control : Control) → LawfulRegistrations c control → LawfulRegistrations c (told_more x control)
registrations_told x c control h = registrations_control c control (told_more x control) (λ e k. sym (event_of_told x control e) ∙ k) h

pub registrations_rest : (c : Calendar) (control : Control) → LawfulRegistrations c control → LawfulRegistrations c (not_active control)
registrations_rest c control h = registrations_control c control (not_active control) (λ e k. sym (event_of_rest control e) ∙ k) h

pub registrations_defuse_failed : (e : EventId) (c : Calendar) (control : Control) → LawfulRegistrations c control
    → LawfulRegistrations (defuse_failed e c) control
registrations_defuse_failed e c control h = registrations_calm c (defuse_failed e c) control (calm_defuse_failed e c) (registered-defused e c) h

pub registrations_made : (k : EventKind) (c : Calendar) (control : Control) → LawfulRegistrations c control → LawfulRegistrations (make k c) control
registrations_made k c control h = registrations_calm c (make k c) control (calm_made k c) refl h

pub registrations_scheduled : (e : EventId) (x : Outcome) (priority : ℕ) (delay : ℤ) (c : Calendar) (control : Control)
    → LawfulRegistrations c control → LawfulRegistrations (schedule e x priority delay c) control
registrations_scheduled e x priority delay c control h = registrations_calm c (schedule e x priority delay c) control (calm_scheduled e x priority delay c) refl h

-- an event is made, it is to call this, and it is scheduled
pub registrations_new : (k : EventKind) (y : Callback) (x : Outcome) (priority : ℕ) (delay : ℤ) (c : Calendar)
    (control : Control) → LawfulRegistrations c control
    → LawfulRegistrations (schedule (next_event c) x priority delay (register (next_event c) y (make k c))) control
registrations_new k y x priority delay c control h =
    let more : length (make k c).events ≡ length c.events + 1 = make-length k c in
    registrations_scheduled (next_event c) x priority delay (register (next_event c) y (make k c)) control
    (registrations_register (next_event c) y (make k c) control (omega (arith, more)) (ap (λ (z : EventOf). z.processed) (make-new k c)) (registrations_made k c control h))

pub registrations_wait : {B : Type 0} (e : EventId) (p : ProcId) (s : State B) → e.0 < length (calendar s).events
    → LawfulRegistrations (calendar s) s.control → LawfulRegistrations (calendar (wait e p s)) (wait e p s).control
registrations_wait e p s made h =
    wait_cases (λ t. LawfulRegistrations (calendar t) t.control) e p s
    (λ k. registrations_told _ (defuse_failed e (calendar s)) s.control (registrations_defuse_failed e (calendar s) s.control h))
    (λ k. registrations_rest (register e (callback.Resume p) (calendar s)) s.control (registrations_register e (callback.Resume p) (calendar s) s.control made k h))

pub registrations_timeout : (delay value : ℤ) (c : Calendar) (control : Control) → LawfulRegistrations c control
    → LawfulRegistrations (make_timeout delay value c) control
registrations_timeout delay value c control h =
    registrations_scheduled (next_event c) (outcome.Ok value) normal delay (make kind.Timeout c) control (registrations_made kind.Timeout c control h)

pub timeout_made : (delay value : ℤ) (c : Calendar) → (next_event c).0 < length (make_timeout delay value c).events
timeout_made delay value c =
    let more : length (make kind.Timeout c).events ≡ length c.events + 1 = make-length kind.Timeout c in
    let longer : length (make kind.Timeout c).events ≤ length (make_timeout delay value c).events = (calm_scheduled (next_event c) (outcome.Ok value) normal delay (make kind.Timeout c)).later.longer in
    omega (arith, more, longer)

-- a named event has a number up to the count of the names
pub named_within : (n m : ℕ) → (nat_lt 0 n && nat_le n m) ≡ true → n ≤ m
named_within n m h = grind (arith, nat_tests)

-- ---- the units

other_unprocessed : (x : Entry) (c : Calendar) (e : EventId) → not (is_same e x.event) ≡ true
    → (was_made c e && not (is_processed c e)) ≡ true → (was_made (popped x c) e && not (is_processed (popped x c) e)) ≡ true
other_unprocessed x c e differ h =
    let d : Calendar = popped x c in
    let k : (was_made c e ≡ true) × (not (is_processed c e) ≡ true) = and_parts _ _ h in
    let longer : length c.events ≤ length d.events = (later_popped x c).longer in
    let apart : e.0 ≢ x.event.0 = λ same. grind (arith, nat_tests) in
    let kept : event_at d e ≡ event_at c e = change_event-other x.event e (λ y. record y { processed = true }) c apart in
    and_from _ _ (below_made d e (omega (arith, made_below c e k.0, longer))) (ap (λ (y : EventOf). not y.processed) kept ∙ k.1)

done_is_some : (o : Option Outcome) → not (is_none o) ≡ true → (not true || is_some o) ≡ true
done_is_some None h = h
done_is_some (Some x) h = refl

pub registrations-popped : {B : Type 0} (g : Plan B) (tell : Telling B) (sound : B → Type 0) (s : State B) (x : Entry)
    → s.control ≡ Idle → due (calendar s).agenda ≡ Some x → LawfulBasis g tell sound s
    → LawfulRegistrations (pop_entry x s).facilities.calendar (pop_entry x s).control
registrations-popped g tell sound s x idle h l =
    let c : Calendar = calendar s in
    let d : Calendar = popped x c in
    let made : x.event.0 < length c.events = due_made x c h l.times in
    let triggered : not (is_pending c x.event) ≡ true = (and_parts _ _ (due_triggered x c h l.times)).0 in
    record {
      unprocessed = λ k r below. other_unprocessed x c _ (filter_passes (λ r. not (is_same r.event x.event)) c.registered k r below) (All-filter (λ r. not (is_same r.event x.event)) (λ r. awaits_processing c r ≡ true) c.registered l.registrations.unprocessed k r below);
      processing = λ e k. subst (λ f. is_processed d f ≡ true) (is_same-yes x.event e k) (ap (λ (y : EventOf). y.processed) (change_event-same x.event (λ y. record y { processed = true }) c made));
      outcomes = change_event-AllPass turned_out x.event (λ y. record y { processed = true }) c (done_is_some (event_at c x.event).outcome triggered) l.registrations.outcomes;
    }

pub registrations-resumed : {B : Type 0} (g : Plan B) (tell : Telling B) (sound : B → Type 0) (s : State B) (e : EventId)
    (left : List Callback) (p : ProcId) → s.control ≡ Calling e (callback.Resume p ∷ left) → LawfulBasis g tell sound s
    → LawfulRegistrations (resume e left p s).facilities.calendar (resume e left p s).control
registrations-resumed g tell sound s e left p at l =
    let d : Calendar = defuse_failed e (calendar s) in
    let h : LawfulRegistrations d (Calling e (callback.Resume p ∷ left)) = subst (λ c. LawfulRegistrations d c) at (registrations_defuse_failed e (calendar s) s.control l.registrations) in
    registrations_control d (Calling e (callback.Resume p ∷ left)) _ (λ f k. k) h

pub registrations-stopped : {B : Type 0} (g : Plan B) (tell : Telling B) (sound : B → Type 0) (s : State B) (e : EventId)
    (left : List Callback) → s.control ≡ Calling e (callback.Stop ∷ left) → LawfulBasis g tell sound s
    → LawfulRegistrations (call g e callback.Stop left s).facilities.calendar (call g e callback.Stop left s).control
registrations-stopped g tell sound s e left at l =
    registrations_control (calendar s) (Calling e (callback.Stop ∷ left)) (Over (end_at e s) e left) (λ f k. k) (subst (λ c. LawfulRegistrations (calendar s) c) at l.registrations)

pub registrations-settled : {B : Type 0} (g : Plan B) (tell : Telling B) (sound : B → Type 0) (s : State B) (e : EventId)
    → s.control ≡ Calling e [] → LawfulBasis g tell sound s
    → LawfulRegistrations (settle e s).facilities.calendar (settle e s).control
registrations-settled g tell sound s e at l =
    let h : LawfulRegistrations (calendar s) (Calling e []) = subst (λ c. LawfulRegistrations (calendar s) c) at l.registrations in
    if_cases (λ c. LawfulRegistrations (calendar s) c) (is_crash e s) (Over end.Crash e []) Idle (λ b. registrations_control (calendar s) (Calling e []) (Over end.Crash e []) (λ f k. k) h)
    (λ b. registrations_control (calendar s) (Calling e []) Idle (λ f k. absurd (false≢true k)) h)

pub registrations-polled_end : {B : Type 0} (g : Plan B) (tell : Telling B) (sound : B → Type 0) (s : State B)
    (f : CodeFacts) (e : EventId) (left : List Callback) (p : ProcId) (x : Signal) (y : ProcessOf B) (b : B) (o : Outcome)
    → s.control ≡ Active e left p x → process_at p s ≡ Some y → sound b → LawfulBasis g tell sound s
    → IsTrue (length (scopes_told (tell.scopes y.body) (tell.last y.body) x) == 0)
    → LawfulRegistrations (rest (end_process p o (with_body p b s))).facilities.calendar (rest (end_process p o (with_body p b s))).control
registrations-polled_end g tell sound s f e left p x y b o at found keeps l closed =
    registrations_rest (trigger (event_of p) o (calendar s)) s.control (registrations_scheduled (event_of p) o normal (pos 0) (calendar s) s.control l.registrations)

pub registrations-made_process : {B : Type 0} (g : Plan B) (tell : Telling B) (sound : B → Type 0) (s : State B)
    (f : CodeFacts) (k : ℕ) (args : List ℤ)
    → IsTrue (nat_lt k (length f.params) && may_start (slice_index_or f.params k []) args)
    → IsLawfulStart f tell k args (record { 0 = (next_event (calendar s)).0 })
    (g.start k args (record { 0 = (next_event (calendar s)).0 }))
    → sound (g.start k args (record { 0 = (next_event (calendar s)).0 })) → LawfulBasis g tell sound s
    → LawfulRegistrations (make_process g k args s).facilities.calendar (make_process g k args s).control
registrations-made_process g tell sound s f k args fits start keeps l =
    let c : Calendar = calendar s in
    registrations_new kind.Init (callback.Resume (record { 0 = (next_event c).0 })) (outcome.Ok (pos 0)) urgent (pos 0) (make kind.Process c) s.control (registrations_made kind.Process c s.control l.registrations)

pub registrations-blank : {B : Type 0} (g : Plan B) (tell : Telling B) (sound : B → Type 0) (f : CodeFacts)
    → FitsCode f g.setup → LawfulRegistrations (blank_state g).facilities.calendar (blank_state g).control
registrations-blank g tell sound f fits =
    record {
      unprocessed = λ i d below. absurd (omega (arith, below));
      processing = λ e k. absurd (false≢true k);
      outcomes = All-cons (λ x. turned_out x ≡ true) event_zero (replicate g.setup.events (pending_event kind.Plain)) refl (All-replicate (λ x. turned_out x ≡ true) g.setup.events (pending_event kind.Plain) refl);
    }

pub registrations-set_stop : {B : Type 0} (g : Plan B) (tell : Telling B) (sound : B → Type 0) (s : State B) (until : Until)
    → IsTrue (until_fits g.setup.events until)
    → AreNamedPending g s
    → (calendar s).time ≡ pos 0 → s.control ≡ Idle → LawfulBasis g tell sound s
    → LawfulRegistrations (on_events (set_stop until) s).facilities.calendar (on_events (set_stop until) s).control
registrations-set_stop g tell sound s until.Never fits named zero_time idle l = l.registrations
registrations-set_stop g tell sound s (until.At time) fits named zero_time idle l = registrations_new kind.Stop callback.Stop (outcome.Ok (pos 0)) urgent time (calendar s) s.control l.registrations
registrations-set_stop g tell sound s (until.Event e) fits named zero_time idle l =
    let all_named : g.setup.events < length (calendar s).events = l.processes.named_made in
    registrations_register e callback.Stop (calendar s) s.control (omega (arith, all_named, named_within e.0 g.setup.events fits)) (not-true _ (and_parts _ _ (named e fits)).1) l.registrations
