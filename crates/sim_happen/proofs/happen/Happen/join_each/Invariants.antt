use Rattle.sim_happen_law.proofs.Conditions.Joining.{JoinsUpTo}
use Rattle.sim_happen.proofs.happen.Happen.join_each.Given as goal

abbrev pub invariant-loop-member : goal.invariant-loop-member
invariant-loop-member l = JoinsUpTo l.condition l.member-items l.member-index l.initial.self l.self
