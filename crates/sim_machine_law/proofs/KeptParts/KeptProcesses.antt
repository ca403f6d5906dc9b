-- The pop, the calls and the settling keep the law of processes.
use Rattle.std.proofs.Common.{◌≡◌, ℕ, ◌+◌, true, false, ◌&&◌, not, List, [], ◌∷◌, Some, refl, ap, subst, ◌∙◌, arith, ⊎_elim}
use Rattle.std.specs.Prelude.{count_by, if◌then◌else◌, All}
use Rattle.std.proofs.lemmas.Bool.{cases_Bool, cond_both, or_cases, or_right, true_from_ne_false}
use Rattle.std.proofs.lemmas.List.Elements.{All-weaker}
use Rattle.std.proofs.lemmas.List.Folds.{Any-from_list_any}
use Rattle.sim_types.specs.declared.event.EventId.{EventId}
use Rattle.sim_types.specs.declared.event.ProcId.{ProcId}
use Rattle.sim_types.specs.declared.event.Callback.{Callback}
use Rattle.sim_types.specs.declared.event.Signal.{Signal}
use Rattle.sim_types.specs.declared.event.Entry.{Entry}
use Rattle.sim_types.specs.declared.event.Callback.TheVariants as callback
use Rattle.sim_types.specs.declared.line.End.TheVariants as end
use Rattle.sim_machine.specs.State.{EventOf, Calendar, ProcessOf, Control, Idle, Calling, Active, Over, State, Plan}
use Rattle.sim_machine.specs.Events.{is_process, event_at, is_fail, change_event, is_resume_of, callbacks_of, defuse}
use Rattle.sim_machine.specs.Agenda.{due, popped}
use Rattle.sim_machine.specs.Scopes.{on_events}
use Rattle.sim_machine.specs.Processes.{is_alive, defuse_failed}
use Rattle.sim_machine.specs.Effect.{calendar}
use Rattle.sim_machine.specs.Steps.{control_to, pop_entry, resume, signal_by, end_at, call, is_crash, settle}
use Rattle.sim_machine.specs.Tellings.{Telling}
use Rattle.sim_machine.specs.Standing.{one_if, left_of, is_event_of, all_callbacks_of, callbacks_in_all}
use Rattle.sim_machine.specs.LawfulProcesses.{is_active, is_waiting_well, LawfulProcesses}
use Rattle.sim_machine_law.proofs.Events.CallbackLaws.{counts_one, counts_none, counts_not, all_callbacks_of-popped, callbacks_in_all-popped, callbacks_in_all-called, callbacks_at-called}
use Rattle.sim_machine_law.proofs.KeptParts.KeptProcessesParts.{is_process-yes, is_process-self, is_process-swap, KeepsResumes, KeepsLiving, processes-kept, living-changed, living-events, living-same, resumes-same, resumes-called, resumes-none, WaitsOnce, waits_once, waiting_well, waiting_active}
use Rattle.sim_machine_law.proofs.KeptParts.LawfulBasis.{LawfulBasis}

-- ---- the pop

resumes-popped : (x : Entry) (c : Calendar) → KeepsResumes c Idle (popped x c) (Calling x.event (callbacks_of x.event c))
resumes-popped x c =
    record {
      active = λ p. refl;
      in_all = λ p. callbacks_in_all-popped (is_resume_of p) x c;
      at = λ p f. ap (λ xs. count_by (is_resume_of p) xs) (all_callbacks_of-popped x f c);
    }

living-popped : (x : Entry) (c : Calendar) → KeepsLiving c (popped x c)
living-popped x c =
    let done : EventOf → EventOf = λ y. record y { processed = true } in
    living-events c (change_event x.event done c) (popped x c) refl (living-changed x.event done c (λ y. refl) (λ y. refl) (λ y h. refl))

pub processes-popped : {B : Type 0} (g : Plan B) (tell : Telling B) (sound : B → Type 0) (s : State B) (x : Entry)
    → s.control ≡ Idle → due (calendar s).agenda ≡ Some x → LawfulBasis g tell sound s
    → LawfulProcesses g.setup.events (pop_entry x s)
processes-popped g tell sound s x idle found h =
    processes-kept g.setup.events s (pop_entry x s) refl (living-popped x (calendar s)) (rw idle (resumes-popped x (calendar s))) h.processes

-- ---- a call

-- a change of the events alone
pub processes-events : {B : Type 0} (named : ℕ) (s : State B) (change : Calendar → Calendar)
    → KeepsLiving (calendar s) (change (calendar s)) → KeepsResumes (calendar s) s.control (change (calendar s)) s.control
    → LawfulProcesses named s → LawfulProcesses named (on_events change s)
processes-events named s change v r h = processes-kept named s (on_events change s) refl v r h

-- a change of the control alone
pub processes-control : {B : Type 0} (named : ℕ) (s : State B) (l : Control)
    → KeepsResumes (calendar s) s.control (calendar s) l → LawfulProcesses named s → LawfulProcesses named (control_to l s)
processes-control named s l r h = processes-kept named s (control_to l s) refl (living-same (calendar s)) r h

living-defused : (e : EventId) (c : Calendar) → KeepsLiving c (defuse_failed e c)
living-defused e c =
    cond_both (is_fail (event_at c e).outcome) (defuse e c) c (λ d. KeepsLiving c d)
    (λ h. living-changed e (λ y. record y { defused = true }) c (λ y. refl) (λ y. refl) (λ y p. p)) (λ h. living-same c)

pub registered-defused : (e : EventId) (c : Calendar) → (defuse_failed e c).registered ≡ c.registered
registered-defused e c = cond_both (is_fail (event_at c e).outcome) (defuse e c) c (λ d. d.registered ≡ c.registered) (λ h. refl) (λ h. refl)

-- a failure that a process is told of
pub processes-defused : {B : Type 0} (named : ℕ) (s : State B) (e : EventId) → LawfulProcesses named s → LawfulProcesses named (on_events (defuse_failed e) s)
processes-defused named s e h =
    let c = calendar s in
    processes-events named s (defuse_failed e) (living-defused e c) (resumes-same c s.control (defuse_failed e c) s.control (registered-defused e c) refl (λ f. refl) (λ p. refl)) h

-- a live process that is found, and what holds of all
pub alive_has : {B : Type 0} (s : State B) (p : ProcId) (P : ProcessOf B → Type 0) → All P s.processes → is_alive p s ≡ true
    → (x : ProcessOf B) × (x.id ≡ p) × P x
alive_has s p P h a =
    let found = Any-from_list_any (λ (x : ProcessOf _). is_process x.id p) s.processes a in
    let x = found.1 in
    (x, is_process-yes x.id p found.4, subst P found.3 (h found.0 x found.2))

-- the process that an event resumes is active, and no other callback resumes it
pub processes-activated : {B : Type 0} (named : ℕ) (s : State B) (e : EventId) (left : List Callback) (p : ProcId)
    (y : Signal) → s.control ≡ Calling e (callback.Resume p ∷ left) → LawfulProcesses named s
    → LawfulProcesses named (control_to (Active e left p y) s)
processes-activated {B} named s e left p y calling h =
    let c : Calendar = calendar s in
    let l : Control = Active e left p y in
    let t : State B = control_to l s in
    let in_all : (q : ProcId) → callbacks_in_all (is_resume_of q) c s.control ≡ one_if (is_process q p) + callbacks_in_all (is_resume_of q) c l = λ q. callbacks_in_all-called (is_resume_of q) c s.control l (callback.Resume p) (rw calling refl) in
    let at : (q : ProcId) (f : EventId) → count_by (is_resume_of q) (all_callbacks_of c s.control f) ≡ one_if (is_event_of l f && is_process q p) + count_by (is_resume_of q) (all_callbacks_of c l f) =
    λ q f. callbacks_at-called (is_resume_of q) c s.control l (callback.Resume p) f (rw calling refl) (rw calling refl) in
    let once : one_if (is_process p p) ≡ 1 = counts_one (is_process p p) (is_process-self p) in
    let none : (q : ProcId) → not (is_alive q s) ≡ true → callbacks_in_all (is_resume_of q) c s.control ≡ 0 = λ q b. h.not_resumed q (or_right (is_active s.control q) (not (is_alive q s)) b) in
    let alive : is_alive p s ≡ true = true_from_ne_false (is_alive p s) (λ b. omega (arith, in_all p, once, none p (rw b refl))) in
    let rests : (q : ProcId) → is_active s.control q ≡ false = λ q. rw calling refl in
    let found = alive_has s p (λ x. is_waiting_well s x ≡ true) h.waiting alive in
    let found_once : WaitsOnce c s.control found.0.id found.0.target = waits_once s found.0 (rests found.0.id) found.2 in
    let counted : callbacks_in_all (is_resume_of p) c s.control ≡ 1 = subst (λ q. callbacks_in_all (is_resume_of q) c s.control ≡ 1) found.1 found_once.in_all in
    let mine : callbacks_in_all (is_resume_of p) c l ≡ 0 = omega (arith, in_all p, once, counted) in
    let waits : (x : ProcessOf B) → is_waiting_well s x ≡ true → is_waiting_well t x ≡ true = λ x w.
    ⊎_elim (λ a. waiting_active t x a) (λ b.
    let other : is_process x.id p ≡ false = is_process-swap x.id p ∙ b in
    let before : WaitsOnce c s.control x.id x.target = waits_once s x (rests x.id) w in
    waiting_well t x (record {
      in_all = omega (arith, in_all x.id, before.in_all, counts_none (is_process x.id p) other);
      at = omega (arith, at x.id x.target, before.at, counts_not (is_event_of l x.target) (is_process x.id p) other);
    })) (cases_Bool (is_process p x.id)) in
    record {
      distinct = h.distinct;
      active = λ q a. subst (λ r. is_alive r s ≡ true) (is_process-yes p q a) alive;
      waiting = All-weaker (λ x. is_waiting_well s x ≡ true) (λ x. is_waiting_well t x ≡ true) waits s.processes h.waiting;
      not_resumed = λ q n. ⊎_elim (λ a. subst (λ r. callbacks_in_all (is_resume_of r) c l ≡ 0) (is_process-yes p q a) mine) (λ b. omega (arith, in_all q, none q b)) (or_cases (is_process p q) (not (is_alive q s)) n);
      living = h.living;
      named_made = h.named_made;
      named_plain = h.named_plain;
      zero_processed = h.zero_processed;
      zero_ok = h.zero_ok;
    }

pub processes-resumed : {B : Type 0} (g : Plan B) (tell : Telling B) (sound : B → Type 0) (s : State B) (e : EventId)
    (left : List Callback) (p : ProcId) → s.control ≡ Calling e (callback.Resume p ∷ left) → LawfulBasis g tell sound s
    → LawfulProcesses g.setup.events (resume e left p s)
processes-resumed g tell sound s e left p calling h =
    processes-activated g.setup.events (on_events (defuse_failed e) s) e left p (signal_by (event_at (calendar s) e).kind (event_at (calendar s) e).outcome) calling (processes-defused g.setup.events s e h.processes)

pub processes-stopped : {B : Type 0} (g : Plan B) (tell : Telling B) (sound : B → Type 0) (s : State B) (e : EventId)
    (left : List Callback) → s.control ≡ Calling e (callback.Stop ∷ left) → LawfulBasis g tell sound s
    → LawfulProcesses g.setup.events (call g e callback.Stop left s)
processes-stopped g tell sound s e left calling h =
    let l : Control = Over (end_at e s) e left in
    processes-control g.setup.events s l (resumes-called (calendar s) s.control l callback.Stop (rw calling refl) (λ f. rw calling refl) (λ p. rw calling refl) (λ p. refl)) h.processes

-- ---- the settling

pub processes-settled : {B : Type 0} (g : Plan B) (tell : Telling B) (sound : B → Type 0) (s : State B) (e : EventId)
    → s.control ≡ Calling e [] → LawfulBasis g tell sound s → LawfulProcesses g.setup.events (settle e s)
processes-settled g tell sound s e calling h =
    let over : Control = Over end.Crash e [] in
    let l : Control = if is_crash e s then over else Idle in
    let none : left_of l ≡ [] = cond_both (is_crash e s) over Idle (λ k. left_of k ≡ []) (λ b. refl) (λ b. refl) in
    let rests : (p : ProcId) → is_active l p ≡ is_active s.control p = λ p. rw calling (cond_both (is_crash e s) over Idle (λ k. is_active k p ≡ false) (λ b. refl) (λ b. refl)) in
    processes-control g.setup.events s l (resumes-none (calendar s) s.control l (rw calling refl) none rests) h.processes
