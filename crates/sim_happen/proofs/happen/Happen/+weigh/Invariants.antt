use Rattle.std.specs.Prelude.{◌-◌}
use Rattle.sim_happen_law.proofs.Conditions.Weights.{WeighsUpTo}
use Rattle.sim_happen.proofs.happen.Happen.+weigh.Given as goal

abbrev pub decreases-weigh : goal.decreases-weigh
decreases-weigh l = l.depth

abbrev pub invariant-loop-member : goal.invariant-loop-member
invariant-loop-member l = WeighsUpTo (l.depth - 1) l.self.events l.member-items l.member-index l.weight
