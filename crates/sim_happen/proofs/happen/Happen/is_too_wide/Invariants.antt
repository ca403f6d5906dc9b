use Rattle.sim_machine.specs.Conditions.{most_weight}
use Rattle.sim_happen_law.proofs.Conditions.Weights.{WeighsUpTo}
use Rattle.sim_happen.proofs.happen.Happen.is_too_wide.Given as goal

abbrev pub invariant-loop-member : goal.invariant-loop-member
invariant-loop-member l = WeighsUpTo most_weight l.self.events l.member-items l.member-index l.weight
