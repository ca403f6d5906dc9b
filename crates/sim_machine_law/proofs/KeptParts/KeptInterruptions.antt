-- The pop, the calls and the settling keep the law of interruptions.
use Rattle.std.proofs.Common.{◌≡◌, true, List, [], ◌∷◌, Some, refl, sym, ◌∙◌}
use Rattle.std.specs.Prelude.{if◌then◌else◌}
use Rattle.std.proofs.lemmas.Bool.{cond_both}
use Rattle.sim_types.specs.declared.event.EventId.{EventId}
use Rattle.sim_types.specs.declared.event.ProcId.{ProcId}
use Rattle.sim_types.specs.declared.event.Callback.{Callback}
use Rattle.sim_types.specs.declared.event.Signal.{Signal}
use Rattle.sim_types.specs.declared.event.Entry.{Entry}
use Rattle.sim_types.specs.declared.event.Callback.TheVariants as callback
use Rattle.sim_types.specs.declared.line.End.TheVariants as end
use Rattle.sim_machine.specs.State.{EventOf, Calendar, Control, Idle, Calling, Active, Over, State, Plan}
use Rattle.sim_machine.specs.Events.{event_at, is_fail, change_event, callbacks_of, defuse}
use Rattle.sim_machine.specs.Agenda.{due, popped}
use Rattle.sim_machine.specs.Scopes.{on_events}
use Rattle.sim_machine.specs.Processes.{defuse_failed}
use Rattle.sim_machine.specs.Effect.{calendar}
use Rattle.sim_machine.specs.Steps.{control_to, pop_entry, resume, signal_by, end_at, call, is_crash, settle}
use Rattle.sim_machine.specs.Tellings.{Telling}
use Rattle.sim_machine.specs.Standing.{left_of, is_event_of, all_callbacks_of}
use Rattle.sim_machine.specs.LawfulInterruptions.{LawfulInterruptions}
use Rattle.sim_machine_law.proofs.Events.CallbackLaws.{all_callbacks_of-popped, all_callbacks_of-none}
use Rattle.sim_machine_law.proofs.KeptParts.KeptInterruptionsParts.{StrikesAlone, KeepsHearing, AllMade, interruptions-strikes, interruptions-registered, interruptions-calling, interruptions-kept, all_made, hearing-same, hearing-events, hearing-changed, strikes-kept, strikes-called}
use Rattle.sim_machine_law.proofs.KeptParts.LawfulBasis.{LawfulBasis}

-- ---- the pop

hearing-popped : (x : Entry) (c : Calendar) → KeepsHearing c (popped x c)
hearing-popped x c =
    let done : EventOf → EventOf = λ y. record y { processed = true } in
    hearing-events c (change_event x.event done c) (popped x c) refl (hearing-changed x.event done c (λ y. refl) (λ y. refl) (λ y h. h))

pub interruptions-popped : {B : Type 0} (g : Plan B) (tell : Telling B) (sound : B → Type 0) (s : State B) (x : Entry)
    → s.control ≡ Idle → due (calendar s).agenda ≡ Some x → LawfulBasis g tell sound s → LawfulInterruptions (pop_entry x s)
interruptions-popped g tell sound s x idle found h =
    let c : Calendar = calendar s in
    let before : StrikesAlone c Idle = rw idle at (interruptions-strikes s h.interruptions) in
    let after : StrikesAlone (popped x c) (Calling x.event (callbacks_of x.event c)) = strikes-kept c Idle (popped x c) (Calling x.event (callbacks_of x.event c)) (hearing-popped x c) (λ f. all_callbacks_of-popped x f c) before in
    interruptions-kept s (pop_entry x s) refl (all_made g tell sound s h) (hearing-popped x c) after h.interruptions

-- ---- a call

-- a change of the control alone
pub interruptions-control : {B : Type 0} (s : State B) (l : Control) → StrikesAlone (calendar s) l → LawfulInterruptions s
    → LawfulInterruptions (control_to l s)
interruptions-control s l strikes h =
    record {
      registered = interruptions-registered (control_to l s) strikes;
      calling = interruptions-calling (control_to l s) strikes;
      failed = h.failed;
      targets = h.targets;
      members = h.members;
    }

hearing-defused : (e : EventId) (c : Calendar) → KeepsHearing c (defuse_failed e c)
hearing-defused e c =
    cond_both (is_fail (event_at c e).outcome) (defuse e c) c (λ d. KeepsHearing c d)
    (λ h. hearing-changed e (λ y. record y { defused = true }) c (λ y. refl) (λ y. refl) (λ y p. p)) (λ h. hearing-same c)

callbacks-defused : (e f : EventId) (c : Calendar) (k : Control) → all_callbacks_of (defuse_failed e c) k f ≡ all_callbacks_of c k f
callbacks-defused e f c k = cond_both (is_fail (event_at c e).outcome) (defuse e c) c (λ d. all_callbacks_of d k f ≡ all_callbacks_of c k f) (λ h. refl) (λ h. refl)

-- a failure that a process is told of
pub interruptions-defused : {B : Type 0} (s : State B) (e : EventId) → AllMade s → LawfulInterruptions s → LawfulInterruptions (on_events (defuse_failed e) s)
interruptions-defused s e made h =
    let c : Calendar = calendar s in
    interruptions-kept s (on_events (defuse_failed e) s) refl made (hearing-defused e c) (strikes-kept c s.control (defuse_failed e c) s.control (hearing-defused e c) (λ f. callbacks-defused e f c s.control) (interruptions-strikes s h)) h

-- a callback less is left to call
pub interruptions-called : {B : Type 0} (s : State B) (l : Control) (x : Callback) → left_of s.control ≡ x ∷ left_of l
    → ((f : EventId) → is_event_of s.control f ≡ is_event_of l f) → LawfulInterruptions s
    → LawfulInterruptions (control_to l s)
interruptions-called s l x left of h = interruptions-control s l (strikes-called (calendar s) s.control l x left of (interruptions-strikes s h)) h

pub interruptions-resumed : {B : Type 0} (g : Plan B) (tell : Telling B) (sound : B → Type 0) (s : State B) (e : EventId)
    (left : List Callback) (p : ProcId) → s.control ≡ Calling e (callback.Resume p ∷ left) → LawfulBasis g tell sound s
    → LawfulInterruptions (resume e left p s)
interruptions-resumed g tell sound s e left p calling h =
    let told : Signal = signal_by (event_at (calendar s) e).kind (event_at (calendar s) e).outcome in
    interruptions-called (on_events (defuse_failed e) s) (Active e left p told) (callback.Resume p) (rw calling refl) (λ f. rw calling refl) (interruptions-defused s e (all_made g tell sound s h) h.interruptions)

pub interruptions-stopped : {B : Type 0} (g : Plan B) (tell : Telling B) (sound : B → Type 0) (s : State B) (e : EventId)
    (left : List Callback) → s.control ≡ Calling e (callback.Stop ∷ left) → LawfulBasis g tell sound s
    → LawfulInterruptions (call g e callback.Stop left s)
interruptions-stopped g tell sound s e left calling h = interruptions-called s (Over (end_at e s) e left) callback.Stop (rw calling refl) (λ f. rw calling refl) h.interruptions

-- ---- the settling

pub interruptions-settled : {B : Type 0} (g : Plan B) (tell : Telling B) (sound : B → Type 0) (s : State B) (e : EventId)
    → s.control ≡ Calling e [] → LawfulBasis g tell sound s → LawfulInterruptions (settle e s)
interruptions-settled g tell sound s e calling h =
    let c : Calendar = calendar s in
    let over : Control = Over end.Crash e [] in
    let l : Control = if is_crash e s then over else Idle in
    let none : left_of l ≡ [] = cond_both (is_crash e s) over Idle (λ k. left_of k ≡ []) (λ b. refl) (λ b. refl) in
    let before : left_of s.control ≡ [] = rw calling refl in
    interruptions-control s l (strikes-kept c s.control c l (hearing-same c) (λ f. all_callbacks_of-none c l f none ∙ sym (all_callbacks_of-none c s.control f before)) (interruptions-strikes s h.interruptions)) h.interruptions
