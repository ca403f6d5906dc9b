-- The run of a scenario, and its trace.
use Rattle.std.specs.Prelude.{ℕ, List}
use Rattle.sim_types.specs.Scenarios.{ScenarioOf}
use Rattle.sim_types.specs.declared.line.End.{End}
use Rattle.sim_types.specs.declared.setup.Arrival.{Arrival}
use Rattle.sim_machine.specs.RandomWords.{word_of}
use Rattle.sim_machine.specs.Units.{Course}
use Rattle.sim_machine.specs.Runs.{end_word, units_made}
use Rattle.sim_machine_law.specs.Courses.{course_after}
use Rattle.sim_script_model.specs.Scripts.{Script}
use Rattle.sim_script_model.specs.Polls.{script_turn}
use Rattle.sim_script_model.specs.Scenarios.{plan_with, trace}
use Rattle.sim_script_law.specs.ScenarioRuns.{run_of}
use Rattle.sim_trace.specs.Texts.{trace_text}

-- the lines of a run by so many units, with the random words of this seed, and the one on its end, as they are printed
abbrev pub printed_run : ScenarioOf → ℕ → List Arrival → ℕ → List ℕ
printed_run s seed journal limit = trace_text s.port_names (trace s seed journal limit)

-- how many units of so many at most are made before it ends
abbrev pub units_of : ScenarioOf → ℕ → List Arrival → ℕ → ℕ
units_of s seed journal limit = units_made (plan_with s (word_of seed)) (script_turn s.code) journal limit

-- ---- the scenario's own run: with its own seed, on its own journal

-- the run of so many units at most
abbrev pub run_of_scenario : ScenarioOf → ℕ → Course Script
run_of_scenario s limit = course_after (run_of s s.seed s.journal) limit

-- its lines as they are printed
abbrev pub printed_trace : ScenarioOf → ℕ → List ℕ
printed_trace s limit = printed_run s s.seed s.journal limit

-- how it ended
abbrev pub end_of_scenario : ScenarioOf → ℕ → End
end_of_scenario s limit = end_word (plan_with s (word_of s.seed)) (run_of_scenario s limit)
