use Rattle.sim_callbacks.proofs.Finding.{Looked}
use Rattle.sim_callbacks.proofs.chain.Chain.find.Given as goal

abbrev pub invariant-loop-place : goal.invariant-loop-place
invariant-loop-place l = Looked l.nodes l.self l.wanted l.place l.before
