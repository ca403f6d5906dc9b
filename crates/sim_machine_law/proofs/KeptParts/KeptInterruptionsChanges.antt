-- What a process does keeps the law of interruptions: it goes on, waits or ends.
use Rattle.std.proofs.Common.{◌≡◌, ℕ, ◌<◌, ℤ, pos, Bool, true, false, not, map, length, Some, refl, ap, ◌∙◌}
use Rattle.std.specs.Prelude.{filter, if◌then◌else◌}
use Rattle.std.proofs.lemmas.Bool.{cond_both, true≢false}
use Rattle.std.proofs.lemmas.List.Elements.{All-weaker, All-map, All-filter}
use Rattle.sim_types.specs.declared.event.EventId.{EventId}
use Rattle.sim_types.specs.declared.event.ProcId.{ProcId}
use Rattle.sim_types.specs.declared.event.EventKind.{EventKind}
use Rattle.sim_types.specs.declared.event.Outcome.{Outcome}
use Rattle.sim_types.specs.declared.event.Callback.{Callback}
use Rattle.sim_types.specs.declared.event.Signal.{Signal}
use Rattle.sim_types.specs.declared.event.EventKind.TheVariants as kind
use Rattle.sim_types.specs.declared.event.Callback.TheVariants as callback
use Rattle.sim_machine.specs.State.{Calendar, ProcessOf, Control, State}
use Rattle.sim_machine.specs.Events.{is_process, event_at, is_processed, register}
use Rattle.sim_machine.specs.Triggering.{normal, make, schedule}
use Rattle.sim_machine.specs.Scopes.{on_events}
use Rattle.sim_machine.specs.Processes.{event_of, change_process, with_body, told_more, not_active, tell, rest, wait, signal_of, defuse_failed, end_process}
use Rattle.sim_machine.specs.Effect.{calendar}
use Rattle.sim_machine.specs.Standing.{kind_at}
use Rattle.sim_machine.specs.LawfulInterruptions.{is_strike, is_interrupt_kind, is_unheard_kind, is_failed_interruption, LawfulInterruptions}
use Rattle.sim_machine_law.proofs.Events.CallbackLaws.{left_of-told, left_of-rest, is_event_of-told, is_event_of-rest, all_callbacks_of-same}
use Rattle.sim_machine_law.proofs.KeptParts.KeptProcessesChanges.{waiting_for}
use Rattle.sim_machine_law.proofs.KeptParts.KeptInterruptionsParts.{StrikesAlone, KeepsHearing, AllMade, interruptions-strikes, interruptions-registered, interruptions-calling, interruptions-kept, all_made-kept, hearing-same, hearing-made, hearing-scheduled, strikes-kept, strikes-registered}
use Rattle.sim_machine_law.proofs.KeptParts.KeptInterruptions.{interruptions-control, interruptions-defused}

-- ---- processes that are changed and wait for the same

pub interruptions-mapped : {B : Type 0} (s : State B) (f : ProcessOf B → ProcessOf B)
    → ((x : ProcessOf B) → (f x).target ≡ x.target) → LawfulInterruptions s
    → LawfulInterruptions (record s { processes = map f s.processes })
interruptions-mapped {B} s f targets h =
    let heard : EventId → Bool = λ e. not (is_unheard_kind (kind_at (calendar s) e)) in
    record {
      registered = h.registered;
      calling = h.calling;
      failed = h.failed;
      targets = All-map (λ (x : ProcessOf B). heard x.target ≡ true) f s.processes (All-weaker (λ x. heard x.target ≡ true) (λ x. heard (f x).target ≡ true) (λ x a. ap heard (targets x) ∙ a) s.processes h.targets);
      members = h.members;
    }

pub all_made-mapped : {B : Type 0} (s : State B) (f : ProcessOf B → ProcessOf B)
    → ((x : ProcessOf B) → (f x).target ≡ x.target) → AllMade s → AllMade (record s { processes = map f s.processes })
all_made-mapped {B} s f targets h =
    let c : Calendar = calendar s in
    record {
      targets = All-map (λ (x : ProcessOf B). x.target.0 < length c.events) f s.processes (All-weaker (λ x. x.target.0 < length c.events) (λ x. (f x).target.0 < length c.events) (λ x a. rw (targets x) a) s.processes h.targets);
      members = h.members;
    }

target_of-body : {B : Type 0} (p : ProcId) (b : B) (x : ProcessOf B) → (if is_process x.id p then record x { body = b } else x).target ≡ x.target
target_of-body p b x = cond_both (is_process x.id p) (record x { body = b }) x (λ y. y.target ≡ x.target) (λ a. refl) (λ a. refl)

-- a body is in a new state
pub interruptions-bodies : {B : Type 0} (s : State B) (p : ProcId) (b : B) → LawfulInterruptions s → LawfulInterruptions (with_body p b s)
interruptions-bodies s p b h = interruptions-mapped s (λ x. if is_process x.id p then record x { body = b } else x) (target_of-body p b) h

pub all_made-bodies : {B : Type 0} (s : State B) (p : ProcId) (b : B) → AllMade s → AllMade (with_body p b s)
all_made-bodies s p b h = all_made-mapped s (λ x. if is_process x.id p then record x { body = b } else x) (target_of-body p b) h

-- ---- a process goes on

-- a state with the same events, control and processes
pub interruptions-same : {B : Type 0} (s t : State B) → t.processes ≡ s.processes
    → t.facilities.calendar ≡ s.facilities.calendar → t.control ≡ s.control → LawfulInterruptions s → LawfulInterruptions t
interruptions-same s t processes events control h =
    record {
      registered = rw (events, control) h.registered;
      calling = rw (events, control) h.calling;
      failed = rw events h.failed;
      targets = rw (events, processes) h.targets;
      members = rw events h.members;
    }

-- the active process is told something else
pub interruptions-told : {B : Type 0} (s : State B) (x : Signal) → LawfulInterruptions s → LawfulInterruptions (tell x s)
interruptions-told s x h =
    let c : Calendar = calendar s in
    let l : Control = told_more x s.control in
    interruptions-control s l (strikes-kept c s.control c l (hearing-same c) (λ f. all_callbacks_of-same c s.control l f (left_of-told x s.control) (is_event_of-told x s.control f)) (interruptions-strikes s h)) h

-- no process is active any more
pub interruptions-rest : {B : Type 0} (s : State B) → LawfulInterruptions s → LawfulInterruptions (rest s)
interruptions-rest s h =
    let c : Calendar = calendar s in
    let l : Control = not_active s.control in
    interruptions-control s l (strikes-kept c s.control c l (hearing-same c) (λ f. all_callbacks_of-same c s.control l f (left_of-rest s.control) (is_event_of-rest s.control f)) (interruptions-strikes s h)) h

-- ---- a process waits

heard_no_interrupt : (k : EventKind) → is_unheard_kind k ≡ false → is_interrupt_kind k ≡ false
heard_no_interrupt kind.Interrupt h = absurd (true≢false h)
heard_no_interrupt _ h = refl

-- one that does not strike is registered, at an event that is no interruption
pub interruptions-registers : {B : Type 0} (s : State B) (e : EventId) (x : Callback) → is_strike x ≡ false
    → is_interrupt_kind (kind_at (calendar s) e) ≡ false → LawfulInterruptions s
    → LawfulInterruptions (on_events (register e x) s)
interruptions-registers {B} s e x other kinds h =
    let t : State B = on_events (register e x) s in
    let strikes : StrikesAlone (calendar t) t.control = strikes-registered e x (calendar s) s.control other kinds (interruptions-strikes s h) in
    record {
      registered = interruptions-registered t strikes;
      calling = interruptions-calling t strikes;
      failed = h.failed;
      targets = h.targets;
      members = h.members;
    }

pub all_made-registers : {B : Type 0} (s : State B) (e : EventId) (x : Callback) → AllMade s → AllMade (on_events (register e x) s)
all_made-registers s e x made = record { targets = made.targets; members = made.members }

-- a process waits for an event that may be waited for
pub interruptions-targets : {B : Type 0} (s : State B) (e : EventId) (p : ProcId)
    → is_unheard_kind (kind_at (calendar s) e) ≡ false → LawfulInterruptions s
    → LawfulInterruptions (change_process p (λ x. record x { target = e }) s)
interruptions-targets {B} s e p heard h =
    let new : ProcessOf B → ProcessOf B = λ x. record x { target = e } in
    let f : ProcessOf B → ProcessOf B = λ x. if is_process x.id p then new x else x in
    let fits : ProcessOf B → Type 0 = λ x. not (is_unheard_kind (kind_at (calendar s) x.target)) ≡ true in
    record {
      registered = h.registered;
      calling = h.calling;
      failed = h.failed;
      targets = All-map fits f s.processes (All-weaker fits (λ x. fits (f x)) (λ x a. cond_both (is_process x.id p) (new x) x fits (λ b. rw heard refl) (λ b. a)) s.processes h.targets);
      members = h.members;
    }

pub interruptions-waits : {B : Type 0} (s : State B) (e : EventId) (p : ProcId)
    → is_unheard_kind (kind_at (calendar s) e) ≡ false → LawfulInterruptions s → LawfulInterruptions (waiting_for e p s)
interruptions-waits {B} s e p heard h =
    let registers : State B = on_events (register e (callback.Resume p)) s in
    let targets : State B = change_process p (λ x. record x { target = e }) registers in
    interruptions-rest targets (interruptions-targets registers e p heard (interruptions-registers s e (callback.Resume p) refl (heard_no_interrupt (kind_at (calendar s) e) heard) h))

-- at an event that is processed it goes on
pub interruptions-wait : {B : Type 0} (s : State B) (e : EventId) (p : ProcId)
    → is_unheard_kind (kind_at (calendar s) e) ≡ false → AllMade s → LawfulInterruptions s → LawfulInterruptions (wait e p s)
interruptions-wait {B} s e p heard made h =
    let told : Signal = signal_of (event_at (calendar s) e).outcome in
    let s_defused : State B = on_events (defuse_failed e) s in
    cond_both (is_processed (calendar s) e) (tell told s_defused) (waiting_for e p s) (λ t. LawfulInterruptions t)
    (λ a. interruptions-told s_defused told (interruptions-defused s e made h)) (λ b. interruptions-waits s e p heard h)

-- ---- an event gets an outcome

pub interruptions-schedules : {B : Type 0} (s : State B) (e : EventId) (x : Outcome) (priority : ℕ) (delay : ℤ)
    → is_failed_interruption (record (event_at (calendar s) e) { outcome = Some x }) ≡ true → AllMade s
    → LawfulInterruptions s → LawfulInterruptions (on_events (schedule e x priority delay) s)
interruptions-schedules s e x priority delay fails made h =
    let c : Calendar = calendar s in
    let v : KeepsHearing c (schedule e x priority delay c) = hearing-scheduled e x priority delay c fails in
    interruptions-kept s (on_events (schedule e x priority delay) s) refl made v (strikes-kept c s.control (schedule e x priority delay c) s.control v (λ f. refl) (interruptions-strikes s h)) h

-- ---- an event is made

pub interruptions-makes : {B : Type 0} (s : State B) (k : EventKind) → is_interrupt_kind k ≡ false → AllMade s
    → LawfulInterruptions s → LawfulInterruptions (on_events (make k) s)
interruptions-makes s k other made h =
    let c : Calendar = calendar s in
    let v : KeepsHearing c (make k c) = hearing-made k c other in
    interruptions-kept s (on_events (make k) s) refl made v (strikes-kept c s.control (make k c) s.control v (λ f. refl) (interruptions-strikes s h)) h

pub all_made-makes : {B : Type 0} (s : State B) (k : EventKind) → is_interrupt_kind k ≡ false → AllMade s → AllMade (on_events (make k) s)
all_made-makes s k other made = all_made-kept s (on_events (make k) s) refl (hearing-made k (calendar s) other) made

-- ---- a process ends

-- some processes are no longer alive
pub interruptions-fewer : {B : Type 0} (s : State B) (keeps : ProcessOf B → Bool) → LawfulInterruptions s
    → LawfulInterruptions (record s { processes = filter keeps s.processes })
interruptions-fewer s keeps h =
    record {
      registered = h.registered;
      calling = h.calling;
      failed = h.failed;
      targets = All-filter keeps (λ x. not (is_unheard_kind (kind_at (calendar s) x.target)) ≡ true) s.processes h.targets;
      members = h.members;
    }

pub all_made-fewer : {B : Type 0} (s : State B) (keeps : ProcessOf B → Bool) → AllMade s → AllMade (record s { processes = filter keeps s.processes })
all_made-fewer s keeps h = record { targets = All-filter keeps (λ x. x.target.0 < length (calendar s).events) s.processes h.targets; members = h.members }

pub interruptions-ended : {B : Type 0} (s : State B) (p : ProcId) (o : Outcome)
    → is_interrupt_kind (kind_at (calendar s) (event_of p)) ≡ false → AllMade s → LawfulInterruptions s
    → LawfulInterruptions (rest (end_process p o s))
interruptions-ended {B} s p o kinds made h =
    let keeps : ProcessOf B → Bool = λ y. not (is_process y.id p) in
    let fewer : State B = record s { processes = filter keeps s.processes } in
    interruptions-rest (end_process p o s) (interruptions-schedules fewer (event_of p) o normal (pos 0) (rw kinds refl) (all_made-fewer s keeps made) (interruptions-fewer s keeps h))
