-- What arrives in the run of a scenario comes in by its ports.
use Rattle.std.specs.Prelude.{IsTrue}
use Rattle.sim_types.specs.Scenarios.{ScenarioOf}
use Rattle.sim_language.specs.WellFormed.{is_well_formed}
use Rattle.sim_language_law.proofs.Scenarios.PostsOfScenarios.{posts_of_scenario}
use Rattle.sim_types.specs.Setups.{HavePorts}

pub has_ports : (s : ScenarioOf) → IsTrue (is_well_formed s) → HavePorts s.setup s.journal
has_ports s well_formed = (posts_of_scenario s well_formed).ports
