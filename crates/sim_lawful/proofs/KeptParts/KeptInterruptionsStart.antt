-- The opening keeps the law of interruptions: a process is made, and what is to stop the run.
use Rattle.std.proofs.Common.{◌≡◌, ℕ, ◌≤◌, ℤ, pos, Bool, true, false, ◌&&◌, ◌||◌, not, List, [], ◌∷◌, ◌++◌, length, Some, refl, sym, ap, ◌∙◌}
use Rattle.std.specs.Prelude.{IsTrue, nat_lt, nat_le, slice_index_or, replicate}
use Rattle.std.specs.List.{AllPass}
use Rattle.std.proofs.lemmas.Bool.{and_parts, leb-true, true≢false, false≢true}
use Rattle.std.proofs.lemmas.List.Elements.{All-nil, All-cons, All-push, All-replicate}
use Rattle.sim_types.specs.declared.event.EventId.{EventId}
use Rattle.sim_types.specs.declared.event.ProcId.{ProcId}
use Rattle.sim_types.specs.declared.event.EventKind.{EventKind}
use Rattle.sim_types.specs.declared.setup.Until.{Until}
use Rattle.sim_types.specs.declared.event.EventKind.TheVariants as kind
use Rattle.sim_types.specs.declared.event.Outcome.TheVariants as outcome
use Rattle.sim_types.specs.declared.event.Callback.TheVariants as callback
use Rattle.sim_types.specs.declared.setup.Until.TheVariants as until
use Rattle.sim_machine.specs.State.{EventOf, Calendar, ProcessOf, State, Plan, Idle}
use Rattle.sim_machine.specs.Events.{event_at, is_pending, is_processed, pending_event, next_event, register}
use Rattle.sim_machine.specs.Triggering.{urgent, make}
use Rattle.sim_machine.specs.Scopes.{on_events}
use Rattle.sim_machine.specs.Processes.{make_events_of_process, make_process}
use Rattle.sim_machine.specs.Effect.{calendar}
use Rattle.sim_machine.specs.Runs.{event_zero, first_calendar, blank_state, set_stop}
use Rattle.sim_machine.specs.Tellings.{Telling, CodeFacts}
use Rattle.sim_machine.specs.BodyLaw.{IsLawfulStart, may_start}
use Rattle.sim_machine.specs.Setups.{until_fits, FitsCode}
use Rattle.sim_machine.specs.Standing.{kind_at}
use Rattle.sim_machine.specs.LawfulProcesses.{is_plain_kind}
use Rattle.sim_machine.specs.LawfulInterruptions.{is_strike, strikes_alone, is_interrupt_kind, is_unheard_kind, is_failed_interruption, has_heard_members, LawfulInterruptions}
use Rattle.sim_machine_law.proofs.Events.EventLaws.{make-new, change_event-keeps}
use Rattle.sim_lawful.proofs.KeptParts.KeptProcessesStart.{init_of, with_init}
use Rattle.sim_machine_law.proofs.KeptParts.KeptInterruptionsParts.{AllMade, all_made}
use Rattle.sim_machine_law.proofs.KeptParts.KeptInterruptionsChanges.{interruptions-same, interruptions-registers, all_made-registers, interruptions-schedules, interruptions-makes, all_made-makes}
use Rattle.sim_machine_law.proofs.KeptParts.LawfulBasis.{AreNamedPending, LawfulBasis}

-- ---- a process is made

init_fails : (c : Calendar) → is_failed_interruption (record (event_at (with_init c) (init_of c)) { outcome = Some (outcome.Ok (pos 0)) }) ≡ true
init_fails c = ap (λ (x : EventOf). is_failed_interruption (record x { outcome = Some (outcome.Ok (pos 0)) })) (make-new kind.Init (make kind.Process c))

-- the events of a process: its own and its init event
pub interruptions-process_events : {B : Type 0} (s : State B) → AllMade s → LawfulInterruptions s → LawfulInterruptions (on_events make_events_of_process s)
interruptions-process_events {B} s made h =
    let c : Calendar = calendar s in
    let p : ProcId = record { 0 = (next_event c).0 } in
    let a : State B = on_events (make kind.Process) s in
    let b : State B = on_events (make kind.Init) a in
    let d : State B = on_events (register (init_of c) (callback.Resume p)) b in
    let made_a : AllMade a = all_made-makes s kind.Process refl made in
    let made_b : AllMade b = all_made-makes a kind.Init refl made_a in
    let kept : LawfulInterruptions b = interruptions-makes a kind.Init refl made_a (interruptions-makes s kind.Process refl made h) in
    let kinds = ap (λ (x : EventOf). is_interrupt_kind x.kind) (make-new kind.Init (make kind.Process c)) in
    let registers : LawfulInterruptions d = interruptions-registers b (init_of c) (callback.Resume p) refl kinds kept in
    interruptions-schedules d (init_of c) (outcome.Ok (pos 0)) urgent (pos 0) (init_fails c) (all_made-registers b (init_of c) (callback.Resume p) made_b) registers

kind_init : (c : Calendar) → kind_at (make_events_of_process c) (init_of c) ≡ kind.Init
kind_init c =
    change_event-keeps (λ x. x.kind) (init_of c) (init_of c) (λ y. record y { outcome = Some (outcome.Ok (pos 0)) }) (with_init c) (λ y. refl) ∙ ap (λ (x : EventOf). x.kind) (make-new kind.Init (make kind.Process c))

-- a process more, which waits for its init event
pub interruptions-joined : {B : Type 0} (s : State B) (b : B) → AllMade s → LawfulInterruptions s
    → LawfulInterruptions (on_events make_events_of_process
    (record s {
      processes = s.processes
          ++ record { id = record { 0 = (next_event (calendar s)).0 }; body = b; target = next_event (make kind.Process (calendar s)) } ∷ [];
    }))
interruptions-joined {B} s b made h =
    let c : Calendar = calendar s in
    let d : Calendar = make_events_of_process c in
    let new : ProcessOf B = record { id = record { 0 = (next_event c).0 }; body = b; target = init_of c } in
    let after : LawfulInterruptions (on_events make_events_of_process s) = interruptions-process_events s made h in
    record {
      registered = after.registered;
      calling = after.calling;
      failed = after.failed;
      targets = All-push (λ x. not (is_unheard_kind (kind_at d x.target)) ≡ true) s.processes new after.targets (ap (λ k. not (is_unheard_kind k)) (kind_init c));
      members = after.members;
    }

pub interruptions-made_process : {B : Type 0} (g : Plan B) (tell : Telling B) (sound : B → Type 0) (s : State B)
    (f : CodeFacts) (k : ℕ) (args : List ℤ)
    → IsTrue (nat_lt k (length f.params) && may_start (slice_index_or f.params k []) args)
    → IsLawfulStart f tell k args (record { 0 = (next_event (calendar s)).0 })
    (g.start k args (record { 0 = (next_event (calendar s)).0 }))
    → sound (g.start k args (record { 0 = (next_event (calendar s)).0 })) → LawfulBasis g tell sound s
    → LawfulInterruptions (make_process g k args s)
interruptions-made_process g tell sound s f k args fits law fine h = interruptions-joined s (g.start k args (record { 0 = (next_event (calendar s)).0 })) (all_made g tell sound s h) h.interruptions

-- ---- the state before any process is made

-- what event 0 and an event just named have
first_pass : (test : EventOf → Bool) (named : ℕ) → test event_zero ≡ true → test (pending_event kind.Plain) ≡ true → AllPass test (first_calendar named).events
first_pass test named zero_has named_has =
    All-cons (λ x. test x ≡ true) event_zero (replicate named (pending_event kind.Plain)) zero_has (All-replicate (λ x. test x ≡ true) named (pending_event kind.Plain) named_has)

pub interruptions-blank : {B : Type 0} (g : Plan B) (tell : Telling B) (sound : B → Type 0) (f : CodeFacts)
    → FitsCode f g.setup → LawfulInterruptions (blank_state g)
interruptions-blank {B} g tell sound f fits =
    let s : State B = blank_state g in
    let c : Calendar = first_calendar g.setup.events in
    record {
      registered = All-nil (λ r. (not (is_strike r.callback) || strikes_alone c Idle r.event) ≡ true);
      calling = λ e of. absurd (false≢true of);
      failed = first_pass is_failed_interruption g.setup.events refl refl;
      targets = All-nil (λ (x : ProcessOf B). not (is_unheard_kind (kind_at c x.target)) ≡ true);
      members = first_pass (has_heard_members c) g.setup.events refl refl;
    }

-- ---- what is to stop the run

plain_no_interrupt : (k : EventKind) → is_plain_kind k ≡ true → is_interrupt_kind k ≡ false
plain_no_interrupt kind.Interrupt h = absurd (true≢false (sym h))
plain_no_interrupt _ h = refl

stop_set : {B : Type 0} (g : Plan B) (tell : Telling B) (sound : B → Type 0) (s : State B) (until : Until)
    → IsTrue (until_fits g.setup.events until) → LawfulBasis g tell sound s
    → LawfulInterruptions (on_events (set_stop until) s)
stop_set g tell sound s until.Never fits h = interruptions-same s s refl refl refl h.interruptions
stop_set {B} g tell sound s (until.At time) fits h =
    let c : Calendar = calendar s in
    let e : EventId = next_event c in
    let made : AllMade s = all_made g tell sound s h in
    let a : State B = on_events (make kind.Stop) s in
    let b : State B = on_events (register e callback.Stop) a in
    let kinds = ap (λ (x : EventOf). is_interrupt_kind x.kind) (make-new kind.Stop c) in
    let fails = ap (λ (x : EventOf). is_failed_interruption (record x { outcome = Some (outcome.Ok (pos 0)) })) (make-new kind.Stop c) in
    let made_a : AllMade a = all_made-makes s kind.Stop refl made in
    interruptions-schedules b e (outcome.Ok (pos 0)) urgent time fails (all_made-registers a e callback.Stop made_a)
    (interruptions-registers a e callback.Stop refl kinds (interruptions-makes s kind.Stop refl made h.interruptions))
stop_set g tell sound s (until.Event e) fits h =
    let within : e.0 ≤ g.setup.events = leb-true e.0 g.setup.events (and_parts (nat_lt 0 e.0) (nat_le e.0 g.setup.events) fits).1 in
    interruptions-registers s e callback.Stop refl (plain_no_interrupt (kind_at (calendar s) e) (h.processes.named_plain e.0 within)) h.interruptions

pub interruptions-set_stop : {B : Type 0} (g : Plan B) (tell : Telling B) (sound : B → Type 0) (s : State B) (until : Until)
    → IsTrue (until_fits g.setup.events until)
    → AreNamedPending g s
    → (calendar s).time ≡ pos 0 → s.control ≡ Idle → LawfulBasis g tell sound s
    → LawfulInterruptions (on_events (set_stop until) s)
interruptions-set_stop g tell sound s until fits waits begins idle h = stop_set g tell sound s until fits h
