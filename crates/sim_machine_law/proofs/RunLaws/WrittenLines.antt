-- What each operation writes: a log one line at this time, and all else nothing; and no callback writes.
use Rattle.std.proofs.Common.{◌≡◌, ℕ, ℤ, arith, List, [], ◌∷◌, ◌++◌, Option, Some, None, refl, sym, ◌∙◌, append-nil}
use Rattle.std.specs.Prelude.{fold, find}
use Rattle.sim_machine.specs.Events.{is_same}
use Rattle.sim_machine.specs.Users.{first_of_list}
use Rattle.sim_types.specs.declared.event.EventId.{EventId}
use Rattle.sim_types.specs.declared.event.ProcId.{ProcId}
use Rattle.sim_types.specs.declared.event.Callback.{Callback}
use Rattle.sim_types.specs.declared.event.Callback.TheVariants as callback
use Rattle.sim_types.specs.declared.op.Op.{Op}
use Rattle.sim_types.specs.declared.op.Op.TheVariants as op
use Rattle.sim_types.specs.declared.line.Line.{Line}
use Rattle.sim_types.specs.declared.line.Line.TheVariants as line
use Rattle.sim_machine.specs.State.{Facilities, OpenScope, State, Plan}
use Rattle.sim_machine.specs.Triggering.{make_interruption}
use Rattle.sim_machine.specs.Requests.{make_put, make_get}
use Rattle.sim_machine.specs.Scopes.{on_events, close_scope, close_if_any, release_if_any, scopes_inwards}
use Rattle.sim_machine.specs.Processes.{wait, drop_process, stop_waiting, strip_resume}
use Rattle.sim_machine.specs.Effect.{calendar, tell_made, with_timeout, with_move, to_another, effect}
use Rattle.sim_machine.specs.Steps.{call, call_or_settle}

wait_lines : {B : Type 0} (e : EventId) (p : ProcId) (s : State B) → (wait e p s).lines ≡ s.lines
wait_lines e p s = grind arith

timeout_lines : {B : Type 0} (delay value : ℤ) (after : EventId → State B → State B) (s : State B)
    → ((e : EventId) (t : State B) → (after e t).lines ≡ t.lines) → (with_timeout delay value after s).lines ≡ s.lines
timeout_lines delay value after s h = grind (arith, h)

move_lines : {B : Type 0} (g : Plan B) (res : ℕ) (amount : ℤ) (made : Facilities → Facilities)
    (after : EventId → State B → State B) (s : State B) → ((e : EventId) (t : State B) → (after e t).lines ≡ t.lines)
    → (with_move g res amount made after s).lines ≡ s.lines
move_lines g res amount made after s h = grind (arith, h)

another_lines : {B : Type 0} (p q : ProcId) (does : State B → State B) (s : State B) → (does s).lines ≡ s.lines → (to_another p q does s).lines ≡ s.lines
another_lines p q does s h = grind (arith, h)

close_lines : {B : Type 0} (x : Option OpenScope) (s : State B) → (close_if_any x s).lines ≡ s.lines
close_lines None s = refl
close_lines (Some x) s = refl

release_lines : {B : Type 0} (x : Option OpenScope) (s : State B) → (release_if_any x s).lines ≡ s.lines
release_lines None s = refl
release_lines (Some x) s = refl

close_all_lines : {B : Type 0} (xs : List OpenScope) (s : State B) → (fold close_scope s xs).lines ≡ s.lines
close_all_lines [] s = refl
close_all_lines (x ∷ xs) s = close_all_lines xs (close_scope s x)

-- ---- operations

-- the lines that an operation writes at this time
abbrev pub lines_by : ProcId → Op → ℤ → List Line
lines_by p (op.Log value) time = line.Log time p value ∷ []
lines_by p _ time = []

no_more : (before after : List Line) → after ≡ before → after ≡ before ++ []
no_more before after h = h ∙ sym (append-nil before)

abbrev stripped : {B : Type 0} → ProcId → State B → State B
stripped q s = let t = stop_waiting q s in record t { control = strip_resume q t.control }

-- whatever the state, an operation adds just those lines
pub effect_writes : {B : Type 0} (g : Plan B) (p : ProcId) (x : Op) (s : State B) → (effect g p x s).lines ≡ s.lines ++ lines_by p x (calendar s).time
effect_writes g p op.Nop s = no_more _ _ refl
effect_writes g p (op.Timeout delay value) s = no_more _ _ (timeout_lines delay value tell_made s (λ e t. refl))
effect_writes g p (op.Pause delay value) s = no_more _ _ (timeout_lines delay value (λ e t. wait e p t) s (λ e t. wait_lines e p t))
effect_writes g p (op.Wait e) s = no_more _ _ (wait_lines e p s)
effect_writes g p op.NewEvent s = no_more _ _ refl
effect_writes g p (op.Succeed e value) s = no_more _ _ (grind arith)
effect_writes g p (op.Fail e code) s = no_more _ _ (grind arith)
effect_writes g p (op.Spawn k args) s = no_more _ _ refl
effect_writes g p (op.Interrupt q cause) s = no_more _ _ (another_lines p q (on_events (make_interruption q (record { kind = 1; value = cause }))) s refl)
effect_writes g p (op.Drop q value) s = no_more _ _ (another_lines p q (drop_process q value) s (close_all_lines (scopes_inwards q (stripped q s)) (stripped q s)))
effect_writes g p (op.AllOf members) s = no_more _ _ (grind arith)
effect_writes g p (op.AnyOf members) s = no_more _ _ (grind arith)
effect_writes g p (op.Has cond e) s = no_more _ _ refl
effect_writes g p (op.Enter res priority preempts) s = no_more _ _ (grind arith)
effect_writes g p op.Leave s = no_more _ _ (close_lines (first_of_list (scopes_inwards p s)) s)
effect_writes g p (op.Release request) s = no_more _ _ (release_lines (find (λ x. is_same x.request request) s.scopes) s)
effect_writes g p (op.Put res amount priority) s = no_more _ _ (move_lines g res amount (make_put g.setup.resources res amount priority) tell_made s (λ e t. refl))
effect_writes g p (op.PutWait res amount priority) s = no_more _ _ (move_lines g res amount (make_put g.setup.resources res amount priority) (λ e t. wait e p t) s (λ e t. wait_lines e p t))
effect_writes g p (op.Get res least greatest) s = no_more _ _ (move_lines g res least (make_get g.setup.resources res least greatest) tell_made s (λ e t. refl))
effect_writes g p (op.GetWait res least greatest) s = no_more _ _ (move_lines g res least (make_get g.setup.resources res least greatest) (λ e t. wait e p t) s (λ e t. wait_lines e p t))
effect_writes g p (op.Cancel e) s = no_more _ _ refl
effect_writes g p (op.Count res) s = no_more _ _ refl
effect_writes g p (op.Draw lo hi) s = no_more _ _ (grind arith)
effect_writes g p (op.Log value) s = refl
effect_writes g p (op.Finish value) s = no_more _ _ refl
effect_writes g p (op.Die t) s = no_more _ _ refl
effect_writes g p (op.Chain e y) s = no_more _ _ (grind arith)

-- ---- callbacks

call_lines : {B : Type 0} (g : Plan B) (e : EventId) (x : Callback) (left : List Callback) (s : State B) → (call g e x left s).lines ≡ s.lines
call_lines g e (callback.Resume p) left s = refl
call_lines g e (callback.Strike p) left s = grind arith
call_lines g e (callback.Check cond) left s = refl
call_lines g e (callback.Build cond) left s = refl
call_lines g e (callback.TryPut res) left s = refl
call_lines g e (callback.TryGet res) left s = refl
call_lines g e callback.Stop left s = refl
call_lines g e (callback.Trigger y) left s = refl

-- a call of a callback, or the settling of an event, adds none
pub call_writes : {B : Type 0} (g : Plan B) (e : EventId) (left : List Callback) (s : State B) → (call_or_settle g e left s).lines ≡ s.lines
call_writes g e [] s = refl
call_writes g e (x ∷ left) s = call_lines g e x left s
