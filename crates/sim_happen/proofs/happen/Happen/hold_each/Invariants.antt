use Rattle.sim_happen_law.proofs.Conditions.HoldingEach.{HeldUpTo}
use Rattle.sim_happen.proofs.happen.Happen.hold_each.Given as goal

abbrev pub invariant-loop-member : goal.invariant-loop-member
invariant-loop-member l = HeldUpTo l.member-items l.member-index l.initial.self l.self
