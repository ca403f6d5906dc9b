use Rattle.sim_callbacks.proofs.Passing.{keeps_all}
use Rattle.sim_callbacks.proofs.nodes.Nodes.reserve.Goals as goal

pub returns-clause-chains : goal.returns-clause-chains
returns-clause-chains c = rw (← c.self.view_is) (keeps_all c.self.inside.slab c.reserve.new.self c.reserve.ensures.rest_kept)
