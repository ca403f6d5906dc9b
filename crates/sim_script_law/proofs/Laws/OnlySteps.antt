-- A step of scripts is a step of their function, and so is a unit.
use Rattle.std.proofs.Common.{◌≡◌, Option, Some, None, refl}
use Rattle.sim_types.specs.Scenarios.{ScenarioOf}
use Rattle.sim_types.specs.declared.event.ProcId.{ProcId}
use Rattle.sim_types.specs.declared.event.Signal.{Signal}
use Rattle.sim_types.specs.declared.setup.Arrival.{Arrival}
use Rattle.sim_machine.specs.State.{Control, Idle, Calling, Active, Over, State, Plan}
use Rattle.sim_machine.specs.Steps.{IsPoll, IsStepAt, IsStep, step_of}
use Rattle.sim_machine.specs.Units.{Course, IsUnit, IsUnitAt, due_arrival, unit_of}
use Rattle.sim_machine_law.proofs.RunLaws.UnitLaws.{only_step, only_unit}
use Rattle.sim_machine_law.specs.Courses.{OfFunction}
use Rattle.sim_script_model.specs.Scripts.{Script}
use Rattle.sim_script_model.specs.Polls.{script_turn}
use Rattle.sim_script_law.specs.ScriptMembers.{IsScriptTurn}

paired : {X Y : Type 0} (p : X × Y) (x : X) (y : Y) → x ≡ p.0 → y ≡ p.1 → p ≡ (x, y)
paired p x y a b = rw (a, b) refl

poll_of_function : (g : Plan Script) (scenario : ScenarioOf) (p : ProcId) (x : Signal) (s t : State Script)
    → IsPoll g (IsScriptTurn scenario) p x s t → IsPoll g (OfFunction (script_turn scenario.code)) p x s t
poll_of_function g scenario p x s t h =
    record {
      process = h.process;
      found = h.found;
      asked = h.asked;
      body = h.body;
      turned = paired _ h.asked h.body h.turned.0 h.turned.1;
      then_is = h.then_is;
    }

step_of_function : (g : Plan Script) (scenario : ScenarioOf) (s t : State Script) (c : Control)
    → IsStepAt g (IsScriptTurn scenario) s t c → IsStepAt g (OfFunction (script_turn scenario.code)) s t c
step_of_function g scenario s t Idle h = h
step_of_function g scenario s t (Calling e left) h = h
step_of_function g scenario s t (Active e left p x) h = poll_of_function g scenario p x s t h
step_of_function g scenario s t (Over why e left) h = h

pub only_script_step : (g : Plan Script) (scenario : ScenarioOf) (s t : State Script) → IsStep g (IsScriptTurn scenario) s t
    → t ≡ step_of g (script_turn scenario.code) s
only_script_step g scenario s t h = only_step g (script_turn scenario.code) s t (step_of_function g scenario s t s.control h)

unit_of_function : (g : Plan Script) (scenario : ScenarioOf) (m n : Course Script) (o : Option Arrival)
    → IsUnitAt g (IsScriptTurn scenario) m n o → IsUnitAt g (OfFunction (script_turn scenario.code)) m n o
unit_of_function g scenario m n None h = (step_of_function g scenario m.state n.state m.state.control h.0, h.1)
unit_of_function g scenario m n (Some a) h = h

pub only_script_unit : (g : Plan Script) (scenario : ScenarioOf) (m n : Course Script) → IsUnit g (IsScriptTurn scenario) m n
    → n ≡ unit_of g (script_turn scenario.code) m
only_script_unit g scenario m n h = only_unit g (script_turn scenario.code) m n (unit_of_function g scenario m n (due_arrival m.state m.left) h)
