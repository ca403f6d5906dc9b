-- A script as a process body: how it begins, its polls, and what it tells.
use Rattle.std.specs.Prelude.{◌≡◌, ℕ, ℤ, List, [], map, Option, if◌then◌else◌}
use Rattle.sim_types.specs.Scenarios.{ScenarioOf, facts_of}
use Rattle.sim_types.specs.declared.event.EventId.{EventId}
use Rattle.sim_types.specs.declared.event.Signal.{Signal}
use Rattle.sim_types.specs.declared.op.Op.{Op}
use Rattle.sim_machine.specs.Tellings.{CodeFacts}
use Rattle.sim_machine.specs.Bodies.{BodyOf}
use Rattle.sim_language.specs.WellFormed.{is_well_formed}
use Rattle.sim_script_model.specs.Scripts.{Script, script_start, script_telling, places_of}
use Rattle.sim_script_model.specs.Polls.{given_by, last_stmt, script_turn}
use Rattle.sim_script_law.specs.SoundScripts.{IsSoundScript}

-- how it begins, before it is told its number
abbrev pub begun_script : ScenarioOf → ℕ → List ℤ → Script
begun_script x k args = script_start x k args (record { 0 = 0 })

-- a poll is a function of the script
abbrev pub IsScriptTurn : ScenarioOf → Script → ℤ → Signal → Op → Script → Type 0
IsScriptTurn x b time told asked later = (asked ≡ (script_turn x.code b time told).0) × (later ≡ (script_turn x.code b time told).1)

-- the events that its variables hold
abbrev pub script_holds : Script → List EventId
script_holds b = map (λ p. p.event) (places_of b.classes b.variables)

-- the variable that gets what the statement that was done last makes
abbrev pub script_told_place : ScenarioOf → Script → Option ℕ
script_told_place x b = given_by (last_stmt x.code b)

-- a script that has memory for the statements of a scenario
abbrev pub script_is_for : ScenarioOf → Script → Type 0
script_is_for x b = b.scenario ≡ x

-- scripts are made for well-formed scenarios; no process begins in another
abbrev pub script_facts : ScenarioOf → CodeFacts
script_facts x = if is_well_formed x then facts_of x else record { params = []; named = 0; resources = [] }

-- a script, as contracts see bodies
abbrev pub script_body : BodyOf Script ScenarioOf
script_body = record {
  begun = begun_script;
  numbered = λ b id. record b { me = id };
  turn = IsScriptTurn;
  tell = λ x. script_telling;
  facts = script_facts;
  sound = IsSoundScript;
}
