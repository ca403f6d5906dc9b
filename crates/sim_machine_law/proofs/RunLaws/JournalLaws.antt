-- Only a pop processes an event, so an arrival that is due late changes nothing before.
use Rattle.std.proofs.Common.{◌≡◌, ℕ, suc, ◌+◌, ◌≤◌, ◌<◌, ℤ, arith, Bool, true, false, List, [], ◌∷◌, ◌++◌, Option, Some, None, refl, sym, ◌∙◌, if◌then◌else◌, zero, subst, ap, inl, inr, ◌⊎◌, ◌&&◌, ◌||◌}
use Rattle.std.proofs.lemmas.Bool.{cases_eq}
use Rattle.std.proofs.lemmas.Bool.Decides.{nat_tests}
use Rattle.std.proofs.lemmas.Option.{none-some}
use Rattle.sim_machine.specs.Runs.{after_units, end_of, end_by}
use Rattle.std.specs.Prelude.{nat_le, is_none, fold, find}
use Rattle.sim_machine.specs.Events.{is_same}
use Rattle.sim_machine.specs.Users.{first_of_list}
use Rattle.sim_types.specs.declared.event.EventId.{EventId}
use Rattle.sim_types.specs.declared.event.ProcId.{ProcId}
use Rattle.sim_types.specs.declared.event.Entry.{Entry}
use Rattle.sim_types.specs.declared.event.Callback.{Callback}
use Rattle.sim_types.specs.declared.event.Callback.TheVariants as callback
use Rattle.sim_types.specs.declared.event.Signal.{Signal}
use Rattle.sim_types.specs.declared.op.Op.{Op}
use Rattle.sim_types.specs.declared.op.Op.TheVariants as op
use Rattle.sim_types.specs.declared.setup.Arrival.{Arrival}
use Rattle.sim_machine.specs.State.{Facilities, Control, Idle, Calling, Active, Over, OpenScope, State, ProcessOf, Plan}
use Rattle.sim_machine.specs.Triggering.{make_interruption}
use Rattle.sim_machine.specs.Requests.{make_put, make_get}
use Rattle.sim_machine.specs.Scopes.{on_events, close_scope, close_if_any, release_if_any, scopes_inwards}
use Rattle.sim_machine.specs.Processes.{process_at, with_body, wait, drop_process, stop_waiting, strip_resume}
use Rattle.sim_machine.specs.Effect.{calendar, tell_made, with_timeout, with_move, to_another, effect}
use Rattle.sim_machine.specs.Steps.{TurnFunction, pop_if_any, poll_if_any, step_at, step_of, call, call_or_settle}
use Rattle.sim_machine.specs.Units.{Course, is_idle, due_arrival, unit_at, unit_of}
use Rattle.sim_machine.specs.Agenda.{due}
use Rattle.sim_machine.specs.Runs.{after_units}

wait_processed : {B : Type 0} (e : EventId) (p : ProcId) (s : State B) → (wait e p s).processed ≡ s.processed
wait_processed e p s = grind arith

timeout_processed : {B : Type 0} (delay value : ℤ) (after : EventId → State B → State B) (s : State B)
    → ((e : EventId) (t : State B) → (after e t).processed ≡ t.processed)
    → (with_timeout delay value after s).processed ≡ s.processed
timeout_processed delay value after s h = grind (arith, h)

move_processed : {B : Type 0} (g : Plan B) (res : ℕ) (amount : ℤ) (made : Facilities → Facilities)
    (after : EventId → State B → State B) (s : State B) → ((e : EventId) (t : State B) → (after e t).processed ≡ t.processed)
    → (with_move g res amount made after s).processed ≡ s.processed
move_processed g res amount made after s h = grind (arith, h)

another_processed : {B : Type 0} (p q : ProcId) (does : State B → State B) (s : State B) → (does s).processed ≡ s.processed
    → (to_another p q does s).processed ≡ s.processed
another_processed p q does s h = grind (arith, h)

close_processed : {B : Type 0} (x : Option OpenScope) (s : State B) → (close_if_any x s).processed ≡ s.processed
close_processed None s = refl
close_processed (Some x) s = refl

release_processed : {B : Type 0} (x : Option OpenScope) (s : State B) → (release_if_any x s).processed ≡ s.processed
release_processed None s = refl
release_processed (Some x) s = refl

close_all_processed : {B : Type 0} (xs : List OpenScope) (s : State B) → (fold close_scope s xs).processed ≡ s.processed
close_all_processed [] s = refl
close_all_processed (x ∷ xs) s = close_all_processed xs (close_scope s x)

abbrev stripped : {B : Type 0} → ProcId → State B → State B
stripped q s = let t = stop_waiting q s in record t { control = strip_resume q t.control }

pub effect_processed : {B : Type 0} (g : Plan B) (p : ProcId) (o : Op) (s : State B) → (effect g p o s).processed ≡ s.processed
effect_processed g p op.Nop s = refl
effect_processed g p (op.Timeout delay value) s = (timeout_processed delay value tell_made s (λ e t. refl))
effect_processed g p (op.Pause delay value) s = (timeout_processed delay value (λ e t. wait e p t) s (λ e t. wait_processed e p t))
effect_processed g p (op.Wait e) s = (wait_processed e p s)
effect_processed g p op.NewEvent s = refl
effect_processed g p (op.Succeed e value) s = (grind arith)
effect_processed g p (op.Fail e code) s = (grind arith)
effect_processed g p (op.Spawn k args) s = refl
effect_processed g p (op.Interrupt q cause) s = (another_processed p q (on_events (make_interruption q (record { kind = 1; value = cause }))) s refl)
effect_processed g p (op.Drop q value) s = (another_processed p q (drop_process q value) s (close_all_processed (scopes_inwards q (stripped q s)) (stripped q s)))
effect_processed g p (op.AllOf members) s = (grind arith)
effect_processed g p (op.AnyOf members) s = (grind arith)
effect_processed g p (op.Has cond e) s = refl
effect_processed g p (op.Enter res priority preempts) s = (grind arith)
effect_processed g p op.Leave s = (close_processed (first_of_list (scopes_inwards p s)) s)
effect_processed g p (op.Release request) s = (release_processed (find (λ x. is_same x.request request) s.scopes) s)
effect_processed g p (op.Put res amount priority) s = (move_processed g res amount (make_put g.setup.resources res amount priority) tell_made s (λ e t. refl))
effect_processed g p (op.PutWait res amount priority) s = (move_processed g res amount (make_put g.setup.resources res amount priority) (λ e t. wait e p t) s (λ e t. wait_processed e p t))
effect_processed g p (op.Get res least greatest) s = (move_processed g res least (make_get g.setup.resources res least greatest) tell_made s (λ e t. refl))
effect_processed g p (op.GetWait res least greatest) s = (move_processed g res least (make_get g.setup.resources res least greatest) (λ e t. wait e p t) s (λ e t. wait_processed e p t))
effect_processed g p (op.Cancel e) s = refl
effect_processed g p (op.Count res) s = refl
effect_processed g p (op.Draw lo hi) s = (grind arith)
effect_processed g p (op.Log value) s = refl
effect_processed g p (op.Finish value) s = refl
effect_processed g p (op.Die t) s = refl
effect_processed g p (op.Chain e y) s = (grind arith)

call_processed : {B : Type 0} (g : Plan B) (e : EventId) (x : Callback) (left : List Callback) (s : State B) → (call g e x left s).processed ≡ s.processed
call_processed g e (callback.Resume p) left s = refl
call_processed g e (callback.Strike p) left s = grind arith
call_processed g e (callback.Check cond) left s = refl
call_processed g e (callback.Build cond) left s = refl
call_processed g e (callback.TryPut res) left s = refl
call_processed g e (callback.TryGet res) left s = refl
call_processed g e callback.Stop left s = refl
call_processed g e (callback.Trigger y) left s = refl

pub call_or_settle_processed : {B : Type 0} (g : Plan B) (e : EventId) (left : List Callback) (s : State B) → (call_or_settle g e left s).processed ≡ s.processed
call_or_settle_processed g e [] s = refl
call_or_settle_processed g e (x ∷ left) s = call_processed g e x left s

poll_processed : {B : Type 0} (g : Plan B) (turn : TurnFunction B) (p : ProcId) (x : Signal) (o : Option (ProcessOf B))
    (s : State B) → (poll_if_any g turn p x o s).processed ≡ s.processed
poll_processed g turn p x None s = refl
poll_processed g turn p x (Some y) s = effect_processed g p (turn y.body (calendar s).time x).0 (with_body p (turn y.body (calendar s).time x).1 s)

pop_processed : {B : Type 0} (o : Option Entry) (s : State B) → s.processed ≤ (pop_if_any o s).processed
pop_processed None s = omega arith
pop_processed (Some x) s = omega arith

step_processed : {B : Type 0} (g : Plan B) (turn : TurnFunction B) (s : State B) (c : Control) → s.processed ≤ (step_at g turn s c).processed
step_processed g turn s Idle = pop_processed (due (calendar s).agenda) s
step_processed g turn s (Calling e left) = omega (arith, call_or_settle_processed g e left s)
step_processed g turn s (Active e left p x) = omega (arith, poll_processed g turn p x (process_at p s) s)
step_processed g turn s (Over why e left) = omega arith

unit_processed_at : {B : Type 0} (g : Plan B) (turn : TurnFunction B) (m : Course B) (o : Option Arrival)
    → m.state.processed ≤ (unit_at g turn m o).state.processed
unit_processed_at g turn m None = step_processed g turn m.state m.state.control
unit_processed_at g turn m (Some a) = omega arith

-- the number of events processed never falls
pub unit_processed : {B : Type 0} (g : Plan B) (turn : TurnFunction B) (m : Course B) → m.state.processed ≤ (unit_of g turn m).state.processed
unit_processed g turn m = unit_processed_at g turn m (due_arrival m.state m.left)

-- ---- an entry added behind all others

abbrev pub added : {B : Type 0} → Arrival → Course B → Course B
added a m = record { state = m.state; left = m.left ++ a ∷ [] }

-- where no other entry is left, the added one is not due
abbrev pub IsNotDue : {B : Type 0} → Arrival → Course B → Type 0
IsNotDue a m = m.left ≡ [] → due_arrival m.state (a ∷ []) ≡ None

same_head : {B : Type 0} (g : Plan B) (turn : TurnFunction B) (a x : Arrival) (later : List Arrival) (s : State B) (b : Bool)
    → unit_at g turn (record { state = s; left = x ∷ (later ++ a ∷ []) }) (if b then Some x else None)
    ≡ added a (unit_at g turn (record { state = s; left = x ∷ later }) (if b then Some x else None))
same_head g turn a x later s true = refl
same_head g turn a x later s false = refl

unit_added_at : {B : Type 0} (g : Plan B) (turn : TurnFunction B) (a : Arrival) (s : State B) (left : List Arrival)
    → (left ≡ [] → due_arrival s (a ∷ []) ≡ None)
    → unit_of g turn (record { state = s; left = left ++ a ∷ [] })
    ≡ added a (unit_of g turn (record { state = s; left = left }))
unit_added_at g turn a s [] h =
    let P : Option Arrival → Type 0 = λ o. unit_at g turn (record { state = s; left = a ∷ [] }) o ≡ record { state = step_of g turn s; left = a ∷ [] } in
    subst P (sym (h refl)) refl
unit_added_at g turn a s (x ∷ later) h = same_head g turn a x later s (is_idle s.control && (nat_le x.after s.processed || is_none (due (calendar s).agenda)))

unit_added : {B : Type 0} (g : Plan B) (turn : TurnFunction B) (a : Arrival) (m : Course B) → IsNotDue a m
    → unit_of g turn (added a m) ≡ added a (unit_of g turn m)
unit_added g turn a m h = unit_added_at g turn a m.state m.left h

-- so long as it is not due, it changes no unit
pub units_added : {B : Type 0} (g : Plan B) (turn : TurnFunction B) (a : Arrival) (m : Course B) (n : ℕ)
    → ((k : ℕ) → k < n → IsNotDue a (after_units g turn k m))
    → after_units g turn n (added a m) ≡ added a (after_units g turn n m)
units_added g turn a m zero h = refl
units_added g turn a m (suc n) h =
    ap (unit_of g turn) (units_added g turn a m n (λ k below. h k (omega (arith, below)))) ∙ unit_added g turn a (after_units g turn n m) (h n (omega arith))

zero_only : (k : ℕ) → k ≤ 0 → k ≡ 0
zero_only k h = omega (arith, h)

below_next : (k n : ℕ) → k ≤ suc n → ((k ≡ suc n) → ⊥) → k ≤ n
below_next k n h differ = grind arith

processed_from : {B : Type 0} (g : Plan B) (turn : TurnFunction B) (m : Course B) (k n : ℕ) → k ≤ n
    → (after_units g turn k m).state.processed ≤ (after_units g turn n m).state.processed
processed_from g turn m k zero h = rw (zero_only k h) (omega arith)
processed_from g turn m k (suc n) h = later (cases_eq k (suc n)) (λ below. processed_from g turn m k n below)
  where
    later : (k ≡ suc n) ⊎ ((k ≡ suc n) → ⊥)
        → (k ≤ n → (after_units g turn k m).state.processed ≤ (after_units g turn n m).state.processed)
        → (after_units g turn k m).state.processed ≤ (after_units g turn (suc n) m).state.processed
    later (inl same) before = rw same (omega arith)
    later (inr differ) before = omega (arith, before (below_next k n h differ), unit_processed g turn (after_units g turn n m))

is_later : (a b : ℕ) → b < a → nat_le a b ≡ false
is_later a b h = grind (arith, nat_tests)

popped_one : {B : Type 0} (g : Plan B) (turn : TurnFunction B) (s : State B) (x : Entry) (es : List Entry) → Idle ≡ s.control
    → x ∷ es ≡ (calendar s).agenda → (unit_of g turn (record { state = s; left = [] })).state.processed ≡ s.processed + 1
popped_one g turn s x es c a = rw (← c) (rw (← a) refl)

-- an idle machine that has not ended pops next, so an entry that waits for that pop is not due
not_due_at : {B : Type 0} (g : Plan B) (turn : TurnFunction B) (a : Arrival) (s : State B) (c : Control)
    (agenda : List Entry) → c ≡ s.control → agenda ≡ (calendar s).agenda → end_by g c agenda [] ≡ None
    → (unit_of g turn (record { state = s; left = [] })).state.processed ≤ a.after → due_arrival s (a ∷ []) ≡ None
not_due_at g turn a s Idle [] c e h below = absurd (none-some _ (sym h))
not_due_at g turn a s Idle (x ∷ es) c e h below =
    let one : (unit_of g turn (record { state = s; left = [] })).state.processed ≡ s.processed + 1 = popped_one g turn s x es c e in
    let no : nat_le a.after s.processed ≡ false = is_later a.after s.processed (omega (arith, one, below)) in
    rw (← c) (rw (← e) (rw no refl))
not_due_at g turn a s (Calling f left) agenda c e h below = rw (← c) refl
not_due_at g turn a s (Active f left p x) agenda c e h below = rw (← c) refl
not_due_at g turn a s (Over why f left) agenda c e h below = rw (← c) refl

not_due_with : {B : Type 0} (g : Plan B) (turn : TurnFunction B) (a : Arrival) (s : State B) (left : List Arrival)
    → left ≡ [] → end_of g (record { state = s; left = left }) ≡ None
    → (unit_of g turn (record { state = s; left = left })).state.processed ≤ a.after → due_arrival s (a ∷ []) ≡ None
not_due_with {B} g turn a s left none h below =
    let P : List Arrival → Type 0 = λ l. end_of g (record { state = s; left = l }) ≡ None in
    let Q : List Arrival → Type 0 = λ l. (unit_of g turn (record { state = s; left = l })).state.processed ≤ a.after in
    not_due_at g turn a s s.control (calendar s).agenda refl refl (subst P none h) (subst Q none below)

-- An entry that is added behind all others at a state, with `after` the events processed there, leaves all units before
-- that state as they were.
pub added_at_state : {B : Type 0} (g : Plan B) (turn : TurnFunction B) (a : Arrival) (m : Course B) (n : ℕ)
    → ((k : ℕ) → k < n → end_of g (after_units g turn k m) ≡ None) → a.after ≡ (after_units g turn n m).state.processed
    → after_units g turn n (added a m) ≡ added a (after_units g turn n m)
added_at_state g turn a m n runs at =
    units_added g turn a m n (λ k below none. not_due_with g turn a (after_units g turn k m).state (after_units g turn k m).left none (runs k below) (rw at (processed_from g turn m (suc k) n (omega (arith, below)))))
