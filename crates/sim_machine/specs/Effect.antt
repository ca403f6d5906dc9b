-- What each operation of a process does, and what the process is told next. Errors and their numbers are this project's
-- own; SimPy raises exceptions in their place.
use Rattle.std.specs.Prelude.{Bool, not, int_lt, ℕ, ℤ, List, Option, true, false, Some, None, if◌then◌else◌, ◌+◌, pos, ◌+ℤ◌, ◌-ℤ◌, ◌%◌, nat_abs}
use Rattle.sim_types.specs.Throws.{interrupt, failure, negative_delay, amount_not_positive, already_triggered, ended_process, process_itself, empty_range, time_too_late, condition_too_wide}
use Rattle.sim_types.specs.declared.event.EventId.{EventId}
use Rattle.sim_types.specs.declared.event.ProcId.{ProcId}
use Rattle.sim_types.specs.declared.event.Outcome.{Outcome}
use Rattle.sim_types.specs.declared.event.EventKind.TheVariants as kind
use Rattle.sim_types.specs.declared.event.Outcome.TheVariants as outcome
use Rattle.sim_types.specs.declared.event.Callback.TheVariants as callback
use Rattle.sim_types.specs.declared.event.Signal.TheVariants as signal
use Rattle.sim_types.specs.declared.op.Op.{Op}
use Rattle.sim_types.specs.declared.op.Op.TheVariants as op
use Rattle.sim_types.specs.declared.line.Line.TheVariants as line
use Rattle.sim_machine.specs.State.{AllOrAny, Every, Either, Calendar, Facilities, State, Plan}
use Rattle.sim_machine.specs.Events.{is_process, event_at, is_pending, is_processed, next_event, register}
use Rattle.sim_machine.specs.Triggering.{is_too_late, make, trigger, make_timeout, make_interruption}
use Rattle.sim_machine.specs.Conditions.{is_too_wide, make_condition, has}
use Rattle.sim_machine.specs.Requests.{make_request, make_put, make_get, is_refused_amount, is_own_victim, cancel, held}
use Rattle.sim_machine.specs.Scopes.{on_facilities, on_events, open_scope, leave_innermost, release_request}
use Rattle.sim_machine.specs.Processes.{is_alive, write_line, tell, rest, wait, make_process, end_process, drop_process}

-- the calendar of a state
abbrev pub calendar : {B : Type 0} → State B → Calendar
calendar s = s.facilities.calendar

-- the operation is refused by this error, and nothing else happens
abbrev pub raise : {B : Type 0} → ℕ → State B → State B
raise n s = tell (signal.Raised n) s

-- the process is told the event that was made
abbrev pub tell_made : {B : Type 0} → EventId → State B → State B
tell_made e s = tell (signal.Made e) s

-- a timeout is made, and then the process goes on as said; error 1 is a negative delay, 9 a time past the last
abbrev pub with_timeout : {B : Type 0} → ℤ → ℤ → (EventId → State B → State B) → State B → State B
with_timeout delay value after s =
    if int_lt delay (pos 0) then raise negative_delay s
    else if is_too_late delay (calendar s) then raise time_too_late s
    else after (next_event (calendar s)) (on_events (make_timeout delay value) s)

-- an event is triggered (SimPy's Event.succeed and fail); error 3 is one that was already
abbrev pub trigger_pending : {B : Type 0} → EventId → Outcome → State B → State B
trigger_pending e x s = if is_pending (calendar s) e then tell signal.Done (on_events (trigger e x) s) else raise already_triggered s

-- what is done to a process: error 4 is one that has ended, 5 is the process itself (SimPy's Process.interrupt)
abbrev pub to_another : {B : Type 0} → ProcId → ProcId → (State B → State B) → State B → State B
to_another p q does s =
    if not (is_alive q s) then raise ended_process s
    else if is_process q p then raise process_itself s
    else tell signal.Done (does s)

-- a condition is made; error 10 is one that weighs too much
abbrev pub with_condition : {B : Type 0} → AllOrAny → List EventId → State B → State B
with_condition sort members s =
    if is_too_wide members (calendar s) then raise condition_too_wide s
    else tell_made (next_event (calendar s)) (on_events (make_condition sort members) s)

-- yes as 1 and no as 0
abbrev pub number_of : Bool → ℤ
number_of true = pos 1
number_of false = pos 0

-- a request is made and its scope is opened; error 5 is one that would preempt the process itself
abbrev pub enter : {B : Type 0} → Plan B → ProcId → ℕ → ℤ → Bool → State B → State B
enter g p res priority preempts s =
    let e = next_event (calendar s) in
    if is_own_victim g.setup.resources res p priority preempts s.facilities then raise process_itself s
    else tell_made e (open_scope p e res (on_facilities (make_request g.setup.resources res p priority preempts) s))

-- a put or get is made, and then the process goes on as said; error 2 is an amount that is not positive
abbrev pub with_move : {B : Type 0} → Plan B → ℕ → ℤ → (Facilities → Facilities) → (EventId → State B → State B) → State B → State B
with_move g res amount made after s =
    if is_refused_amount g.setup.resources res amount then raise amount_not_positive s
    else after (next_event (calendar s)) (on_facilities made s)

-- a number of the range from lo to hi, by a random word: lo and the remainder of the word by the number of numbers
abbrev pub drawn_number : ℕ → ℤ → ℤ → ℤ
drawn_number word lo hi = lo +ℤ pos (word % (nat_abs (hi -ℤ lo) + 1))

-- a random number of a range by the next random word; error 8 is an empty range, and then no word is drawn
abbrev pub draw : {B : Type 0} → Plan B → ℤ → ℤ → State B → State B
draw g lo hi s =
    if int_lt hi lo then raise empty_range s
    else tell (signal.Number (drawn_number (g.word s.drawn) lo hi)) (record s { drawn = s.drawn + 1 })

-- an event gets the outcome of another; one that is not pending stays as it is (this project's own: SimPy's
-- Event.trigger does not look)
abbrev pub pass_on : Option Outcome → EventId → Calendar → Calendar
pass_on None y c = c
pass_on (Some x) y c = if is_pending c y then trigger y x c else c

-- e is to pass its outcome on to y once it is processed (SimPy's Event.trigger as a callback); a processed one does so
-- at once, and then error 3 is a y that is not pending
abbrev pub chain : {B : Type 0} → EventId → EventId → State B → State B
chain e y s =
    if not (is_processed (calendar s) e) then tell signal.Done (on_events (register e (callback.Trigger y)) s)
    else if is_pending (calendar s) y then tell signal.Done (on_events (pass_on (event_at (calendar s) e).outcome y) s)
    else raise already_triggered s

-- the active process p asks for an operation; one equation for each, in the order of the operations
abbrev pub effect : {B : Type 0} → Plan B → ProcId → Op → State B → State B
effect g p op.Nop s = tell signal.Done s
effect g p (op.Timeout delay value) s = with_timeout delay value tell_made s
effect g p (op.Pause delay value) s = with_timeout delay value (λ e t. wait e p t) s
effect g p (op.Wait e) s = wait e p s
effect g p op.NewEvent s = tell_made (next_event (calendar s)) (on_events (make kind.Plain) s)
effect g p (op.Succeed e value) s = trigger_pending e (outcome.Ok value) s
effect g p (op.Fail e code) s = trigger_pending e (outcome.Fail (record { kind = failure; value = code })) s
effect g p (op.Spawn k args) s = tell_made (next_event (calendar s)) (make_process g k args s)
effect g p (op.Interrupt q cause) s = to_another p q (on_events (make_interruption q (record { kind = interrupt; value = cause }))) s
effect g p (op.Drop q value) s = to_another p q (drop_process q value) s
effect g p (op.AllOf members) s = with_condition Every members s
effect g p (op.AnyOf members) s = with_condition Either members s
effect g p (op.Has cond e) s = tell (signal.Number (number_of (has cond e (calendar s)))) s
effect g p (op.Enter res priority preempts) s = enter g p res priority preempts s
effect g p op.Leave s = tell signal.Done (leave_innermost p s)
effect g p (op.Release request) s = tell signal.Done (release_request request s)
effect g p (op.Put res amount priority) s = with_move g res amount (make_put g.setup.resources res amount priority) tell_made s
effect g p (op.PutWait res amount priority) s = with_move g res amount (make_put g.setup.resources res amount priority) (λ e t. wait e p t) s
effect g p (op.Get res least greatest) s = with_move g res least (make_get g.setup.resources res least greatest) tell_made s
effect g p (op.GetWait res least greatest) s = with_move g res least (make_get g.setup.resources res least greatest) (λ e t. wait e p t) s
effect g p (op.Cancel e) s = tell signal.Done (on_facilities (cancel e) s)
effect g p (op.Count res) s = tell (signal.Number (held g.setup.resources res s.facilities)) s
effect g p (op.Draw lo hi) s = draw g lo hi s
effect g p (op.Log value) s = tell signal.Done (write_line (line.Log (calendar s).time p value) s)
effect g p (op.Finish value) s = rest (end_process p (outcome.Ok value) s)
effect g p (op.Die t) s = rest (end_process p (outcome.Fail t) s)
effect g p (op.Chain e y) s = chain e y s
