use Rattle.sim_scenario.proofs.Readable.{well_formed_as_read}
use Rattle.sim_scenario.proofs.scenario.Scenario.posters.Goals as goal

pub returns-clause-well_formed : goal.returns-clause-well_formed
returns-clause-well_formed c = well_formed_as_read _ _ c.self.view_is c.self.invariant.0
