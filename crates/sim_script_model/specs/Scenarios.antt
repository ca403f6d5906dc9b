-- The run of a scenario: its setup, its scripts and the random words of a seed, put into the machine.
use Rattle.std.specs.Prelude.{ℕ, zero, suc, ◌+◌, ◌%◌, ◌^◌, List, [], ◌∷◌, length, map}
use Rattle.std.specs.List.{range_with_len}
use Rattle.sim_types.specs.Scenarios.{ScenarioOf}
use Rattle.sim_types.specs.declared.setup.Arrival.{Arrival}
use Rattle.sim_types.specs.declared.line.Line.{Line}
use Rattle.sim_types.specs.declared.line.Summary.{Summary}
use Rattle.sim_types.specs.declared.line.WatchRow.{WatchRow}
use Rattle.sim_machine.specs.State.{Plan}
use Rattle.sim_machine.specs.Units.{Course}
use Rattle.sim_machine.specs.Runs.{run, units_made, trace_of, summary_of}
use Rattle.sim_machine.specs.Measures.{watched}
use Rattle.sim_machine.specs.RandomWords.{word_of}
use Rattle.sim_script_model.specs.Scripts.{Script, script_start}
use Rattle.sim_script_model.specs.Polls.{script_turn}

-- a scenario as a plan, with these random words
abbrev pub plan_with : ScenarioOf → (ℕ → ℕ) → Plan Script
plan_with x word = record { setup = x.setup; word = word; start = script_start x }

-- a run of so many units at most
abbrev pub run_with : ScenarioOf → (ℕ → ℕ) → List Arrival → ℕ → Course Script
run_with x word journal limit = run (plan_with x word) (script_turn x.code) journal limit

-- the lines of a run, the last one on its end
abbrev pub trace_with : ScenarioOf → (ℕ → ℕ) → List Arrival → ℕ → List Line
trace_with x word journal limit = trace_of (plan_with x word) (run_with x word journal limit)

-- what a run comes to
abbrev pub summary_with : ScenarioOf → (ℕ → ℕ) → List Arrival → ℕ → Summary
summary_with x word journal limit = summary_of (plan_with x word) (run_with x word journal limit)

-- the lines of a run with the words of a seed
abbrev pub trace : ScenarioOf → ℕ → List Arrival → ℕ → List Line
trace x seed journal limit = trace_with x (word_of seed) journal limit

-- what a run with the words of a seed comes to
abbrev pub summary : ScenarioOf → ℕ → List Arrival → ℕ → Summary
summary x seed journal limit = summary_with x (word_of seed) journal limit

-- the summaries of so many replications, from number `from` on, each with a seed of its own
abbrev pub replications : ScenarioOf → ℕ → ℕ → ℕ → List Summary
replications x limit from zero = []
replications x limit from (suc count) =
    summary x ((x.seed + from) % 2 ^ 64) x.journal limit ∷ replications x limit (from + 1) count

-- ---- a run that is watched

-- what is told of the resource at a place over so many units of a run with the words of a seed
abbrev pub watch_row : ScenarioOf → ℕ → List Arrival → ℕ → ℕ → WatchRow
watch_row x seed journal units res =
    watched x.setup.resources res (λ i. (run_with x (word_of seed) journal i).state.facilities) units

-- what is told of each resource, by its place, over the units that a run with the words of a seed makes, of so many at most
abbrev pub watch_rows : ScenarioOf → ℕ → List Arrival → ℕ → List WatchRow
watch_rows x seed journal limit =
    map (watch_row x seed journal (units_made (plan_with x (word_of seed)) (script_turn x.code) journal limit))
    (range_with_len 0 (length x.setup.resources))
