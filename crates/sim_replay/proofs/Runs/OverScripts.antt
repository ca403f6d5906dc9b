-- A script does not look at its scenario: with another one it asks for the same, and is then in the same state with that one.
--     turned_over      a poll
use Rattle.std.proofs.Common.{◌≡◌, ℕ, ℤ, Bool, true, false, List, [], ◌∷◌, map, Option, None, Some, refl, ap, ◌∙◌}
use Rattle.std.specs.Prelude.{cond, int_lt, pos, ◌+◌}
use Rattle.sim_types.specs.Scenarios.{ScenarioOf}
use Rattle.sim_types.specs.declared.event.EventId.{EventId}
use Rattle.sim_types.specs.declared.event.Throw.{Throw}
use Rattle.sim_types.specs.declared.event.Signal.{Signal}
use Rattle.sim_types.specs.declared.event.Signal.TheVariants as signal
use Rattle.sim_types.specs.declared.op.Op.{Op}
use Rattle.sim_types.specs.declared.op.Op.TheVariants as op
use Rattle.sim_types.specs.declared.script.Num.{Num}
use Rattle.sim_types.specs.declared.script.Num.TheVariants as num
use Rattle.sim_types.specs.declared.script.Ref.{Ref}
use Rattle.sim_types.specs.declared.script.Ref.TheVariants as ref
use Rattle.sim_types.specs.declared.script.SpawnArg.{SpawnArg}
use Rattle.sim_types.specs.declared.script.SpawnArg.TheVariants as arg
use Rattle.sim_types.specs.declared.script.Stmt.{Stmt}
use Rattle.sim_types.specs.declared.script.Stmt.TheVariants as stmt
use Rattle.sim_types.specs.Throws.{failure}
use Rattle.sim_script_model.specs.Arithmetic.{Answer, Number, Error, compute, is_equal}
use Rattle.sim_script_model.specs.Scripts.{Frame, InLoop, InRepeat, InScope, InTry, Mode, Running, Throwing, Breaking, Finishing, Script, event_in, event_of_ref, process_of_ref, push_frame, set_frames, set_mode, set_place, stmt_at, value_of_arg, value_of_num}
use Rattle.sim_script_model.specs.Polls.{answer_to, ask, ask_in_mode, catch_by, do_stmt, end_repeat, get_op, given_by, last_stmt, leave_loop, leave_try, open_with, put_op, remember, run_on_at, script_turn, store, take_in, unwind}

module _ (x : ScenarioOf) where
  abbrev pub script_over : Script → Script
  script_over b = record b { scenario = x }

  abbrev asked_over : Op × Script → Op × Script
  asked_over r = (r.0, script_over r.1)

  either : (a : Bool) (b d : Script) → cond a (script_over b) (script_over d) ≡ script_over (cond a b d)
  either true b d = refl
  either false b d = refl

  -- ---- what its statements name

  module _ (time : ℤ) (b : Script) where
    num_over : (n : Num) → value_of_num time (script_over b) n ≡ value_of_num time b n
    num_over (num.Lit n) = refl
    num_over (num.Var at) = refl
    num_over num.Now = refl

    ref_over : (r : Ref) → event_of_ref (script_over b) r ≡ event_of_ref b r
    ref_over (ref.Var at) = refl
    ref_over (ref.Named n) = refl
    ref_over ref.Me = refl

    refs_over : (rs : List Ref) → map (event_of_ref (script_over b)) rs ≡ map (event_of_ref b) rs
    refs_over [] = refl
    refs_over (r ∷ rs) = λ i. ref_over r i ∷ refs_over rs i

    arg_over : (a : SpawnArg) → value_of_arg time (script_over b) a ≡ value_of_arg time b a
    arg_over (arg.Num n) = num_over n
    arg_over (arg.Ref r) = λ i. pos (ref_over r i).0

    args_over : (xs : List SpawnArg) → map (value_of_arg time (script_over b)) xs ≡ map (value_of_arg time b) xs
    args_over [] = refl
    args_over (a ∷ xs) = λ i. arg_over a i ∷ args_over xs i

    process_over : (r : Ref) → process_of_ref (script_over b) r ≡ process_of_ref b r
    process_over r = λ i. record { 0 = (ref_over r i).0 }

  -- ---- statements

  answer_over : (to : ℕ) (a : Answer) (b : Script) → answer_to to a (script_over b) ≡ script_over (answer_to to a b)
  answer_over to (Number n) b = refl
  answer_over to (Error n) b = refl

  repeat_over : (first : ℕ) (fs : List Frame) (b : Script) → end_repeat first fs (script_over b) ≡ script_over (end_repeat first fs b)
  repeat_over first (InRepeat count past ∷ fs) b = either (int_lt (pos 1) count) _ _
  repeat_over first [] b = refl
  repeat_over first (InScope e ∷ fs) b = refl
  repeat_over first (InTry catch ∷ fs) b = refl
  repeat_over first (InLoop past ∷ fs) b = refl

  module _ (time : ℤ) (b : Script) where
    does_over : (s : Stmt) → do_stmt time (script_over b) s ≡ asked_over (do_stmt time b s)
    does_over (stmt.Let to arith n m) =
        ap (λ a. (op.Nop, answer_to to a (script_over b))) (λ i. compute arith (num_over time b n i) (num_over time b m i))
        ∙ ap (λ d. (op.Nop, d)) (answer_over to (compute arith (value_of_num time b n) (value_of_num time b m)) b)
    does_over (stmt.Count to res) = refl
    does_over (stmt.Sleep delay) = λ i. (op.Pause (num_over time b delay i) (pos 0), script_over b)
    does_over (stmt.Timer to delay value) = λ i. (op.Timeout (num_over time b delay i) (num_over time b value i), script_over b)
    does_over (stmt.Fresh to) = refl
    does_over (stmt.Wait on) = λ i. (op.Wait (ref_over time b on i), script_over b)
    does_over (stmt.Succeed on value) = λ i. (op.Succeed (ref_over time b on i) (num_over time b value i), script_over b)
    does_over (stmt.Fail on value) = λ i. (op.Fail (ref_over time b on i) (num_over time b value i), script_over b)
    does_over (stmt.All to members) = λ i. (op.AllOf (refs_over time b members i), script_over b)
    does_over (stmt.Any to members) = λ i. (op.AnyOf (refs_over time b members i), script_over b)
    does_over (stmt.Has to c on) = λ i. (op.Has (event_in b c) (ref_over time b on i), script_over b)
    does_over (stmt.Spawn to kind args) = λ i. (op.Spawn kind (args_over time b args i), script_over b)
    does_over (stmt.Interrupt who value) = λ i. (op.Interrupt (process_over time b who i) (num_over time b value i), script_over b)
    does_over (stmt.Drop who value) = λ i. (op.Drop (process_over time b who i) (num_over time b value i), script_over b)
    does_over (stmt.Raise code) = λ i. (op.Nop, set_mode (Throwing (record { kind = failure; value = num_over time b code i })) (script_over b))
    does_over (stmt.Finish value) = λ i. (op.Nop, set_mode (Finishing (num_over time b value i)) (script_over b))
    does_over (stmt.With to res priority preempt) = λ i. (op.Enter res (num_over time b priority i) preempt, script_over b)
    does_over (stmt.Release on) = refl
    does_over (stmt.Put to res a p) = λ i. (put_op to res (num_over time b a i) (num_over time b p i), script_over b)
    does_over (stmt.Get to res lo hi) = λ i. (get_op to res (num_over time b lo i) (num_over time b hi i), script_over b)
    does_over (stmt.Cancel on) = refl
    does_over (stmt.Loop past) = refl
    does_over (stmt.Repeat times past) =
        ap (λ n. (op.Nop, cond (int_lt n (pos 1)) (set_place past (script_over b)) (push_frame (InRepeat n past) (script_over b)))) (num_over time b times)
        ∙ ap (λ d. (op.Nop, d)) (either (int_lt (value_of_num time b times) (pos 1)) _ _)
    does_over (stmt.If test other) =
        ap (λ n. (op.Nop, cond (is_equal n (pos 0)) (set_place other (script_over b)) (script_over b))) (num_over time b test)
        ∙ ap (λ d. (op.Nop, d)) (either (is_equal (value_of_num time b test) (pos 0)) _ _)
    does_over (stmt.Else past) = refl
    does_over (stmt.Try catch) = refl
    does_over (stmt.Catch kind value past) = refl
    does_over (stmt.EndLoop first) = refl
    does_over (stmt.EndRepeat first) = ap (λ d. (op.Nop, d)) (repeat_over first b.frames b)
    does_over stmt.EndWith = refl
    does_over stmt.EndPlain = refl
    does_over stmt.EndProcess = refl
    does_over stmt.Break = refl
    does_over (stmt.Log value) = λ i. (op.Log (num_over time b value i), script_over b)
    does_over (stmt.Draw to lo hi) = λ i. (op.Draw (num_over time b lo i) (num_over time b hi i), script_over b)
    does_over (stmt.Chain on to) = λ i. (op.Chain (ref_over time b on i) (ref_over time b to i), script_over b)

  -- ---- what is told is taken in

  store_over : (to : Option ℕ) (n : ℤ) (b : Script) → store to n (script_over b) ≡ script_over (store to n b)
  store_over None n b = refl
  store_over (Some to) n b = refl

  open_over : (s : Stmt) (e : EventId) (b : Script) → open_with s e (script_over b) ≡ script_over (open_with s e b)
  open_over (stmt.With to res priority preempt) e b = refl
  open_over _ e b = refl

  takes_over : (code : List Stmt) (told : Signal) (b : Script) → take_in code told (script_over b) ≡ script_over (take_in code told b)
  takes_over code signal.Begin b = refl
  takes_over code signal.Done b = refl
  takes_over code (signal.Value v) b = refl
  takes_over code (signal.Thrown t) b = refl
  takes_over code (signal.Raised n) b = refl
  takes_over code (signal.Number n) b = store_over (given_by (last_stmt code b)) n b
  takes_over code (signal.Made e) b =
      let last = last_stmt code b in
      ap (open_with last e) (store_over (given_by last) (pos e.0) b) ∙ open_over last e (store (given_by last) (pos e.0) b)

  -- ---- blocks are left

  catch_over : (s : Stmt) (t : Throw) (b : Script) → catch_by s t (script_over b) ≡ script_over (catch_by s t b)
  catch_over (stmt.Catch kind value past) t b = refl
  catch_over _ t b = refl

  try_over : (code : List Stmt) (catch : ℕ) (m : Mode) (b : Script) → leave_try code catch m (script_over b) ≡ script_over (leave_try code catch m b)
  try_over code catch (Throwing t) b = ap (run_on_at (catch + 1)) (catch_over (stmt_at code catch) t b)
  try_over code catch _ b = refl

  loop_over : (past : ℕ) (m : Mode) (b : Script) → leave_loop past m (script_over b) ≡ script_over (leave_loop past m b)
  loop_over past Breaking b = refl
  loop_over past _ b = refl

  unwind_over : (code : List Stmt) (b : Script) (fs : List Frame) → unwind code (script_over b) fs ≡ asked_over (unwind code b fs)
  unwind_over code b [] = refl
  unwind_over code b (InScope e ∷ fs) = refl
  unwind_over code b (InTry catch ∷ fs) = ap (λ d. (op.Nop, d)) (try_over code catch b.mode (set_frames fs b))
  unwind_over code b (InLoop past ∷ fs) = ap (λ d. (op.Nop, d)) (loop_over past b.mode (set_frames fs b))
  unwind_over code b (InRepeat count past ∷ fs) = ap (λ d. (op.Nop, d)) (loop_over past b.mode (set_frames fs b))

  -- ---- a poll

  ask_over : (code : List Stmt) (time : ℤ) (b : Script) (m : Mode) → ask code time (script_over b) m ≡ asked_over (ask code time b m)
  ask_over code time b Running = does_over time (set_place (b.place + 1) b) (stmt_at code b.place)
  ask_over code time b _ = unwind_over code b b.frames

  pub turned_over : (code : List Stmt) (b : Script) (time : ℤ) (told : Signal)
      → script_turn code (script_over b) time told ≡ asked_over (script_turn code b time told)
  turned_over code b time told =
      let taken = take_in code told b in
      ap (λ d. remember (ask_in_mode code time d)) (takes_over code told b) ∙ ap remember (ask_over code time taken taken.mode)
