-- In so many units at most so many events are processed.
use Rattle.std.proofs.Common.{◌≡◌, ◌≤◌, ℕ, zero, suc, ◌+◌, List, [], ◌∷◌, Option, Some, None, refl, arith}
use Rattle.std.specs.Prelude.{fold}
use Rattle.sim_types.specs.declared.event.Entry.{Entry}
use Rattle.sim_types.specs.declared.event.ProcId.{ProcId}
use Rattle.sim_types.specs.declared.event.Signal.{Signal}
use Rattle.sim_types.specs.declared.setup.Arrival.{Arrival}
use Rattle.sim_types.specs.declared.setup.Start.{Start}
use Rattle.sim_machine.specs.State.{Control, Idle, Calling, Active, Over, Plan, ProcessOf, State}
use Rattle.sim_machine.specs.Agenda.{due}
use Rattle.sim_machine.specs.Effect.{calendar}
use Rattle.sim_machine.specs.Processes.{process_at, with_body}
use Rattle.sim_machine.specs.Steps.{TurnFunction, poll_if_any, pop_if_any, step_at}
use Rattle.sim_machine.specs.Units.{Course, due_arrival, unit_at}
use Rattle.sim_machine.specs.Runs.{after_units, blank_state, opening_course, start_process}
use Rattle.sim_machine_law.specs.Courses.{Run, course_after}
use Rattle.sim_machine_law.proofs.RunLaws.JournalLaws.{call_or_settle_processed, effect_processed}

-- ---- a unit processes one event at most

module _ {B : Type 0} (g : Plan B) (turn : TurnFunction B) where
  pop_at_most : (o : Option Entry) (s : State B) → (pop_if_any o s).processed ≤ s.processed + 1
  pop_at_most None s = omega arith
  pop_at_most (Some x) s = omega arith

  poll_at_most : (p : ProcId) (x : Signal) (o : Option (ProcessOf B)) (s : State B) → (poll_if_any g turn p x o s).processed ≤ s.processed + 1
  poll_at_most p x None s = omega arith
  poll_at_most p x (Some y) s =
      let polled = turn y.body (calendar s).time x in
      omega (arith, effect_processed g p polled.0 (with_body p polled.1 s))

  step_at_most : (s : State B) (c : Control) → (step_at g turn s c).processed ≤ s.processed + 1
  step_at_most s Idle = pop_at_most (due (calendar s).agenda) s
  step_at_most s (Calling e calls) = omega (arith, call_or_settle_processed g e calls s)
  step_at_most s (Active e calls p x) = poll_at_most p x (process_at p s) s
  step_at_most s (Over why e calls) = omega arith

  unit_at_most : (m : Course B) (o : Option Arrival) → (unit_at g turn m o).state.processed ≤ m.state.processed + 1
  unit_at_most m None = step_at_most m.state m.state.control
  unit_at_most m (Some a) = omega arith

  units_at_most : (m : Course B) (n : ℕ) → (after_units g turn n m).state.processed ≤ m.state.processed + n
  units_at_most m zero = omega arith
  units_at_most m (suc n) =
      let before = after_units g turn n m in omega (arith, units_at_most m n, unit_at_most before (due_arrival before.state before.left))

-- ---- none before the first unit

none_started : {B : Type 0} (g : Plan B) (s : State B) (starts : List Start) → (fold (start_process g) s starts).processed ≡ s.processed
none_started g s [] = refl
none_started g s (x ∷ starts) = none_started g (start_process g s x) starts

pub processed_by_units : {B : Type 0} (r : Run B) (n : ℕ) → (course_after r n).state.processed ≤ n
processed_by_units r n =
    omega (arith, units_at_most r.plan r.turn (opening_course r.plan r.journal) n, none_started r.plan (blank_state r.plan) r.plan.setup.starts)
