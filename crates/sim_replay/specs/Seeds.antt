-- A scenario with another seed.
use Rattle.std.specs.Prelude.{ℕ}
use Rattle.sim_types.specs.Scenarios.{ScenarioOf}

-- the scenario with this seed
abbrev pub with_seed : ℕ → ScenarioOf → ScenarioOf
with_seed seed s = record s { seed = seed }
