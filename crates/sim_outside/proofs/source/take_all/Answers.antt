use Rattle.std.proofs.Common.{arith}
use Rattle.std.proofs.lemmas.Grind.{common_steps}
use Rattle.sim_outside.proofs.Taking.{lost_more}
use Rattle.sim_outside.proofs.source.take_all.Goals as goal

pub returns-in_err-extend_from_slice-clause-lost : goal.returns-in_err-extend_from_slice-clause-lost
returns-in_err-extend_from_slice-clause-lost g c =
    lost_more _ _ (g.S.Source.left c.loop-chunk.source) _ _ c.in_ok-count.count c.loop-chunk.taken.items c.read.new.buf c.loop-chunk.invariant.taken (omega arith) (grind (arith, common_steps, c.in_ok-count.ensures.bound)) c.in_ok-count.ensures.bytes
