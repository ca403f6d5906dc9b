use Rattle.sim_callbacks.proofs.Freeing.{Freed}
use Rattle.sim_callbacks.proofs.chain.Chain.free.Given as goal

abbrev pub invariant-loop-self : goal.invariant-loop-self
invariant-loop-self l = Freed l.initial.nodes l.initial.self l.nodes l.self

abbrev pub decreases-loop-self : goal.decreases-loop-self
decreases-loop-self l = l.self.count
