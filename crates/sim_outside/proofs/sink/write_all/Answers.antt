use Rattle.std.proofs.Common.{◌∙◌, arith}
use Rattle.std.proofs.lemmas.Grind.{common_steps}
use Rattle.sim_outside.proofs.Fronts.{front_more, all_written}
use Rattle.sim_outside.proofs.sink.write_all.Goals as goal

pub loop-rest-preserved : goal.loop-rest-preserved
loop-rest-preserved g c =
    record {
      written = front_more _ _ _ _ _ c.in_ok-count.count c.loop-rest.invariant.written (grind (arith, common_steps, c.in_ok-count.ensures.bound)) c.in_ok-count.ensures.bytes;
      faults = c.in_ok-count.ensures.cause.kept ∙ c.loop-rest.invariant.faults;
      unflushed = c.in_ok-count.ensures.unflushed ∙ c.loop-rest.invariant.unflushed;
    }

pub returns-clause-writes : goal.returns-clause-writes
returns-clause-writes g c =
    all_written _ _ _ _ _ c.loop-rest.invariant.written (grind (arith, common_steps, c.is_empty.ensures, c.loop-rest-test.false)) c.loop-rest.invariant.faults
