use Rattle.std.specs.Prelude.{◌-◌}
use Rattle.sim_happen_law.proofs.Conditions.Gathering.{GathersUpTo}
use Rattle.sim_happen.proofs.happen.Happen.+gather.Given as goal

abbrev pub decreases-gather : goal.decreases-gather
decreases-gather l = l.depth

abbrev pub invariant-loop-member : goal.invariant-loop-member
invariant-loop-member l = GathersUpTo (l.depth - 1) l.self.events l.member-items l.member-index l.initial.value l.value
