use Rattle.sim_happen_law.proofs.Changes.Shutting.{own_kept}
use Rattle.sim_happen.proofs.happen.Happen.unhold_condition.Goals as goal

pub depth_of-requires : goal.depth_of-requires
depth_of-requires c = record { kept = own_kept c.args.self.now.events c.args.event c.requires.held }
