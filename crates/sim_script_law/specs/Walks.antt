-- Where a script stands in the code of a scenario.
use Rattle.std.specs.Prelude.{◌≡◌, ℕ, true, List, drop}
use Rattle.std.specs.List.{list_all}
use Rattle.sim_types.specs.Scenarios.{ScenarioOf}
use Rattle.sim_types.specs.declared.script.Kind.{Kind}
use Rattle.sim_language.specs.FittingBlocks.{Open, stand_well}
use Rattle.sim_language.specs.FittingStatements.{statement_fits, up_to_end}

-- at place n these blocks are open, the statements from there on close them well, and those up to the end of the process
-- fit its kind
pub record Walks (x : ScenarioOf) (kind : Kind) (n : ℕ) (opens : List Open) : Type 0 where
  pub stands : stand_well n opens (drop n x.code) ≡ true
  pub fits : list_all (statement_fits x kind) (up_to_end (drop n x.code)) ≡ true
