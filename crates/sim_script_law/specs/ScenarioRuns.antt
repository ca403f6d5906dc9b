-- The run of a scenario.
use Rattle.std.specs.Prelude.{ℕ, List}
use Rattle.sim_types.specs.Scenarios.{ScenarioOf}
use Rattle.sim_types.specs.declared.setup.Arrival.{Arrival}
use Rattle.sim_machine.specs.RandomWords.{word_of}
use Rattle.sim_machine_law.specs.Courses.{Run}
use Rattle.sim_script_model.specs.Polls.{script_turn}
use Rattle.sim_script_model.specs.Scenarios.{plan_with}
use Rattle.sim_script_model.specs.Scripts.{Script}

-- with the random words of this seed, at which this arrives
abbrev pub run_of : ScenarioOf → ℕ → List Arrival → Run Script
run_of s seed journal = record { plan = plan_with s (word_of seed); turn = script_turn s.code; journal = journal }
