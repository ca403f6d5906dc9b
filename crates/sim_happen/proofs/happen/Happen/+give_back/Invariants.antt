use Rattle.std.specs.Prelude.{◌-◌}
use Rattle.sim_happen_law.proofs.Changes.Unholding.{UnheldUpTo}
use Rattle.sim_happen.proofs.happen.Happen.+give_back.Given as goal

abbrev pub decreases-give_back : goal.decreases-give_back
decreases-give_back l = l.depth

abbrev pub invariant-loop-member : goal.invariant-loop-member
invariant-loop-member l = UnheldUpTo (l.depth - 1) l.fn.event l.member-items l.member-index l.fn.self l.self
