use Rattle.std.specs.Prelude.{◌-◌}
use Rattle.sim_happen_law.proofs.Conditions.TakingChecks.{TakesUpTo}
use Rattle.sim_happen.proofs.happen.Happen.+take_checks.Given as goal

abbrev pub decreases-take_checks : goal.decreases-take_checks
decreases-take_checks l = l.depth

abbrev pub invariant-loop-member : goal.invariant-loop-member
invariant-loop-member l = TakesUpTo (l.depth - 1) l.condition l.member-items l.member-index l.fn.self l.self
