-- How many replications of a scenario there are, and what each of them comes to.
use Rattle.std.proofs.Common.{◌≡◌, ℕ, zero, suc, ◌+◌, ◌<◌, ◌%◌, ◌^◌, List, length, refl, ap, arith}
use Rattle.sim_types.specs.Scenarios.{ScenarioOf}
use Rattle.sim_types.specs.declared.line.Summary.{Summary}
use Rattle.sim_script_model.specs.Scenarios.{summary, replications}

-- what the run of this index comes to
abbrev pub replication : ScenarioOf → ℕ → ℕ → Summary
replication s limit index = summary s ((s.seed + index) % 2 ^ 64) s.journal limit

runs_many : (s : ScenarioOf) (limit from count : ℕ) → length (replications s limit from count) ≡ count
runs_many s limit from zero = refl
runs_many s limit from (suc count) = ap suc (runs_many s limit (from + 1) count)

pub few_runs : (s : ScenarioOf) (limit count : ℕ) (ss : List Summary) → ss ≡ replications s limit 0 count → count < 2 ^ 32 → length ss < 2 ^ 32
few_runs s limit count ss is small = rw is (omega (arith, runs_many s limit 0 count, small))
