-- Each unit adds a line at the end, or none.
use Rattle.std.proofs.Common.{◌≡◌, ◌≤◌, ℤ, arith, List, [], ◌∷◌, ◌++◌, length, Option, Some, None, refl, sym, ◌∙◌, append-nil}
use Rattle.sim_types.specs.declared.event.ProcId.{ProcId}
use Rattle.sim_types.specs.declared.event.Entry.{Entry}
use Rattle.sim_types.specs.declared.event.Signal.{Signal}
use Rattle.sim_types.specs.declared.op.Op.{Op}
use Rattle.sim_types.specs.declared.op.Op.TheVariants as op
use Rattle.sim_types.specs.declared.line.Line.{Line}
use Rattle.sim_types.specs.declared.setup.Arrival.{Arrival}
use Rattle.sim_machine.specs.State.{Control, Idle, Calling, Active, Over, State, ProcessOf, Plan}
use Rattle.sim_machine.specs.Processes.{process_at, with_body}
use Rattle.sim_machine.specs.Effect.{calendar, effect}
use Rattle.sim_machine.specs.Steps.{TurnFunction, pop_if_any, poll_if_any, step_at}
use Rattle.sim_machine.specs.Units.{Course, due_arrival, unit_at, unit_of}
use Rattle.sim_machine.specs.Agenda.{due}
use Rattle.sim_machine_law.specs.Courses.{AddsAtMostOne}
use Rattle.sim_machine_law.proofs.RunLaws.WrittenLines.{lines_by, effect_writes, call_writes}

adds_none : (before after : List Line) → after ≡ before → AddsAtMostOne before after
adds_none before after h = ([], omega arith, h ∙ sym (append-nil before))

adds_one : (before : List Line) (x : Line) → AddsAtMostOne before (before ++ x ∷ [])
adds_one before x = (x ∷ [], omega arith, refl)

at_most_one : (p : ProcId) (x : Op) (time : ℤ) → length (lines_by p x time) ≤ 1
at_most_one p (op.Log value) time = omega arith
at_most_one p _ time = omega arith

effect_adds : {B : Type 0} (g : Plan B) (p : ProcId) (o : Op) (s : State B) → AddsAtMostOne s.lines (effect g p o s).lines
effect_adds g p o s = (lines_by p o (calendar s).time, at_most_one p o (calendar s).time, effect_writes g p o s)

pop_adds : {B : Type 0} (x : Option Entry) (s : State B) → AddsAtMostOne s.lines (pop_if_any x s).lines
pop_adds None s = adds_none _ _ refl
pop_adds (Some x) s = adds_one _ _

poll_adds : {B : Type 0} (g : Plan B) (turn : TurnFunction B) (p : ProcId) (x : Signal) (o : Option (ProcessOf B))
    (s : State B) → AddsAtMostOne s.lines (poll_if_any g turn p x o s).lines
poll_adds g turn p x None s = adds_none _ _ refl
poll_adds g turn p x (Some y) s = effect_adds g p (turn y.body (calendar s).time x).0 (with_body p (turn y.body (calendar s).time x).1 s)

step_adds : {B : Type 0} (g : Plan B) (turn : TurnFunction B) (s : State B) (c : Control) → AddsAtMostOne s.lines (step_at g turn s c).lines
step_adds g turn s Idle = pop_adds (due (calendar s).agenda) s
step_adds g turn s (Calling e left) = adds_none _ _ (call_writes g e left s)
step_adds g turn s (Active e left p x) = poll_adds g turn p x (process_at p s) s
step_adds g turn s (Over why e left) = adds_none _ _ refl

unit_adds_at : {B : Type 0} (g : Plan B) (turn : TurnFunction B) (m : Course B) (o : Option Arrival)
    → AddsAtMostOne m.state.lines (unit_at g turn m o).state.lines
unit_adds_at g turn m None = step_adds g turn m.state m.state.control
unit_adds_at g turn m (Some a) = adds_one _ _

-- a unit adds at most one line
pub unit_adds : {B : Type 0} (g : Plan B) (turn : TurnFunction B) (m : Course B) → AddsAtMostOne m.state.lines (unit_of g turn m).state.lines
unit_adds g turn m = unit_adds_at g turn m (due_arrival m.state m.left)
