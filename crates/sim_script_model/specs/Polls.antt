-- What a script asks for when it is polled, and the state that it is in then.
use Rattle.std.specs.Prelude.{ℕ, ◌+◌, ◌-◌, ℤ, pos, ◌-ℤ◌, List, [], ◌∷◌, map, int_lt, Option, Some, None, if◌then◌else◌}
use Rattle.sim_types.specs.Throws.{error, failure}
use Rattle.sim_types.specs.declared.event.EventId.{EventId}
use Rattle.sim_types.specs.declared.event.Throw.{Throw}
use Rattle.sim_types.specs.declared.event.Signal.{Signal}
use Rattle.sim_types.specs.declared.event.Signal.TheVariants as signal
use Rattle.sim_types.specs.declared.op.Op.{Op}
use Rattle.sim_types.specs.declared.op.Op.TheVariants as op
use Rattle.sim_types.specs.declared.script.Stmt.{Stmt}
use Rattle.sim_types.specs.declared.script.Stmt.TheVariants as stmt
use Rattle.sim_script_model.specs.Scripts.{Mode, Running, Throwing, Breaking, Finishing, Frame, InScope, InTry, InLoop, InRepeat, Script, set_variable, set_place, set_mode, set_frames, push_frame, pop_frame, stmt_at, value_of_num, event_in, event_of_ref, process_of_ref, value_of_arg}
use Rattle.sim_script_model.specs.Arithmetic.{Answer, Number, Error, is_equal, compute}

-- ---- what is told is taken in

-- the variable that a statement gives to what it makes, counts or draws
abbrev pub given_by : Stmt → Option ℕ
given_by (stmt.Count to res) = Some to
given_by (stmt.Timer to delay value) = Some to
given_by (stmt.Fresh to) = Some to
given_by (stmt.All to members) = Some to
given_by (stmt.Any to members) = Some to
given_by (stmt.Has to cond on) = Some to
given_by (stmt.Spawn to kind args) = to
given_by (stmt.With to res priority preempt) = Some to
given_by (stmt.Put to res a p) = to
given_by (stmt.Get to res lo hi) = to
given_by (stmt.Draw to lo hi) = Some to
given_by _ = None

-- the number goes into the variable, where one is named
abbrev pub store : Option ℕ → ℤ → Script → Script
store None value b = b
store (Some at) value b = set_variable at value b

-- a `with` opens its scope once its request is made
abbrev pub open_with : Stmt → EventId → Script → Script
open_with (stmt.With to res priority preempt) e b = push_frame (InScope e) b
open_with _ e b = b

-- the statement that was done last, where it made or told something: it stands before the place
abbrev pub last_stmt : List Stmt → Script → Stmt
last_stmt code b = stmt_at code (b.place - 1)

-- what the script is told changes its variables, its blocks or its mode; an error that it was refused by is thrown as
-- kind 4
abbrev pub take_in : List Stmt → Signal → Script → Script
take_in code signal.Begin b = b
take_in code signal.Done b = b
take_in code (signal.Value v) b = set_variable 0 v b
take_in code (signal.Thrown t) b = set_mode (Throwing t) b
take_in code (signal.Raised n) b = set_mode (Throwing (record { kind = error; value = pos n })) b
take_in code (signal.Number n) b = store (given_by (last_stmt code b)) n b
take_in code (signal.Made e) b = open_with (last_stmt code b) e (store (given_by (last_stmt code b)) (pos e.0) b)

-- ---- blocks are left

-- the catch line's variables get what was thrown
abbrev pub catch_by : Stmt → Throw → Script → Script
catch_by (stmt.Catch kind value past) t b = set_variable value t.value (set_variable kind (pos t.kind) b)
catch_by _ t b = b

-- the script runs on as written, from this place on
abbrev pub run_on_at : ℕ → Script → Script
run_on_at at b = set_mode Running (set_place at b)

-- a try block is left: its catch line catches what is thrown, and the script runs on behind that line
abbrev pub leave_try : List Stmt → ℕ → Mode → Script → Script
leave_try code catch (Throwing t) b = run_on_at (catch + 1) (catch_by (stmt_at code catch) t b)
leave_try code catch _ b = b

-- a loop or repeat is left: a break goes no further, and the script runs on behind its `end`
abbrev pub leave_loop : ℕ → Mode → Script → Script
leave_loop past Breaking b = run_on_at past b
leave_loop past _ b = b

-- no block is left: the process ends
abbrev pub end_by_mode : Mode → Op
end_by_mode (Throwing t) = op.Die t
end_by_mode (Finishing v) = op.Finish v
end_by_mode _ = op.Nop

-- the innermost block is left, for the reason that the mode tells; each block takes a poll of its own
abbrev pub unwind : List Stmt → Script → List Frame → Op × Script
unwind code b [] = (end_by_mode b.mode, b)
unwind code b (InScope request ∷ frames) = (op.Leave, set_frames frames b)
unwind code b (InTry catch ∷ frames) = (op.Nop, leave_try code catch b.mode (set_frames frames b))
unwind code b (InLoop past ∷ frames) = (op.Nop, leave_loop past b.mode (set_frames frames b))
unwind code b (InRepeat count past ∷ frames) = (op.Nop, leave_loop past b.mode (set_frames frames b))

-- ---- statements

-- the variable gets the number, or an error is thrown and it stays
abbrev pub answer_to : ℕ → Answer → Script → Script
answer_to to (Number n) b = set_variable to n b
answer_to to (Error n) b = set_mode (Throwing (record { kind = error; value = pos n })) b

-- the end of a repeat: once more from its first statement while turns are left, or on with what follows
abbrev pub end_repeat : ℕ → List Frame → Script → Script
end_repeat first (InRepeat count past ∷ frames) b =
    if int_lt (pos 1) count then set_place first (set_frames (InRepeat (count -ℤ pos 1) past ∷ frames) b) else set_frames frames b
end_repeat first _ b = b

-- a put that is named is made, one that is not is waited for
abbrev pub put_op : Option ℕ → ℕ → ℤ → ℤ → Op
put_op None res a p = op.PutWait res a p
put_op (Some to) res a p = op.Put res a p

-- a get that is named is made, one that is not is waited for
abbrev pub get_op : Option ℕ → ℕ → ℤ → ℤ → Op
get_op None res lo hi = op.GetWait res lo hi
get_op (Some to) res lo hi = op.Get res lo hi

-- the statement is done at this time; b stands after it already
abbrev pub do_stmt : ℤ → Script → Stmt → Op × Script
do_stmt time b (stmt.Let to arith x y) = (op.Nop, answer_to to (compute arith (value_of_num time b x) (value_of_num time b y)) b)
do_stmt time b (stmt.Count to res) = (op.Count res, b)
do_stmt time b (stmt.Sleep delay) = (op.Pause (value_of_num time b delay) (pos 0), b)
do_stmt time b (stmt.Timer to delay value) = (op.Timeout (value_of_num time b delay) (value_of_num time b value), b)
do_stmt time b (stmt.Fresh to) = (op.NewEvent, b)
do_stmt time b (stmt.Wait on) = (op.Wait (event_of_ref b on), b)
do_stmt time b (stmt.Succeed on value) = (op.Succeed (event_of_ref b on) (value_of_num time b value), b)
do_stmt time b (stmt.Fail on value) = (op.Fail (event_of_ref b on) (value_of_num time b value), b)
do_stmt time b (stmt.All to members) = (op.AllOf (map (event_of_ref b) members), b)
do_stmt time b (stmt.Any to members) = (op.AnyOf (map (event_of_ref b) members), b)
do_stmt time b (stmt.Has to cond on) = (op.Has (event_in b cond) (event_of_ref b on), b)
do_stmt time b (stmt.Spawn to kind args) = (op.Spawn kind (map (value_of_arg time b) args), b)
do_stmt time b (stmt.Interrupt who value) = (op.Interrupt (process_of_ref b who) (value_of_num time b value), b)
do_stmt time b (stmt.Drop who value) = (op.Drop (process_of_ref b who) (value_of_num time b value), b)
do_stmt time b (stmt.Raise code) = (op.Nop, set_mode (Throwing (record { kind = failure; value = value_of_num time b code })) b)
do_stmt time b (stmt.Finish value) = (op.Nop, set_mode (Finishing (value_of_num time b value)) b)
do_stmt time b (stmt.With to res priority preempt) = (op.Enter res (value_of_num time b priority) preempt, b)
do_stmt time b (stmt.Release on) = (op.Release (event_in b on), b)
do_stmt time b (stmt.Put to res a p) = (put_op to res (value_of_num time b a) (value_of_num time b p), b)
do_stmt time b (stmt.Get to res lo hi) = (get_op to res (value_of_num time b lo) (value_of_num time b hi), b)
do_stmt time b (stmt.Cancel on) = (op.Cancel (event_in b on), b)
do_stmt time b (stmt.Loop past) = (op.Nop, push_frame (InLoop past) b)
do_stmt time b (stmt.Repeat times past) =
    (op.Nop, if int_lt (value_of_num time b times) (pos 1) then set_place past b else push_frame (InRepeat (value_of_num time b times) past) b)
do_stmt time b (stmt.If test other) = (op.Nop, if is_equal (value_of_num time b test) (pos 0) then set_place other b else b)
do_stmt time b (stmt.Else past) = (op.Nop, set_place past b)
do_stmt time b (stmt.Try catch) = (op.Nop, push_frame (InTry catch) b)
do_stmt time b (stmt.Catch kind value past) = (op.Nop, set_place past (pop_frame b))
do_stmt time b (stmt.EndLoop first) = (op.Nop, set_place first b)
do_stmt time b (stmt.EndRepeat first) = (op.Nop, end_repeat first b.frames b)
do_stmt time b stmt.EndWith = (op.Leave, pop_frame b)
do_stmt time b stmt.EndPlain = (op.Nop, b)
do_stmt time b stmt.EndProcess = (op.Finish (pos 0), b)
do_stmt time b stmt.Break = (op.Nop, set_mode Breaking b)
do_stmt time b (stmt.Log value) = (op.Log (value_of_num time b value), b)
do_stmt time b (stmt.Draw to lo hi) = (op.Draw (value_of_num time b lo) (value_of_num time b hi), b)
do_stmt time b (stmt.Chain on to) = (op.Chain (event_of_ref b on) (event_of_ref b to), b)

-- a script that runs does the statement at its place; one that does not leaves a block
abbrev pub ask : List Stmt → ℤ → Script → Mode → Op × Script
ask code time b Running = do_stmt time (set_place (b.place + 1) b) (stmt_at code b.place)
ask code time b _ = unwind code b b.frames

-- what the script asks for, by its mode
abbrev pub ask_in_mode : List Stmt → ℤ → Script → Op × Script
ask_in_mode code time b = ask code time b b.mode

-- the script keeps what it asked for
abbrev pub remember : Op × Script → Op × Script
remember r = (r.0, record (r.1) { asked = Some r.0 })

-- one poll: what is told is taken in, and then the script asks for an operation
abbrev pub script_turn : List Stmt → Script → ℤ → Signal → Op × Script
script_turn code b time told = remember (ask_in_mode code time (take_in code told b))
