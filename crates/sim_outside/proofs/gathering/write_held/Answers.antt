use Rattle.std.proofs.Common.{◌∙◌, length}
use Rattle.sim_outside.proofs.HeldBack.{front_passed, back_passed}
use Rattle.sim_outside.proofs.gathering.write_held.Goals as goal

pub loop-inner-preserved : goal.loop-inner-preserved
loop-inner-preserved g c =
    record {
      passed = front_passed _ _ _ _ _ _ _ _ c.loop-inner.invariant.passed c.as_slice.ensures c.in_ok-count.ensures.bound c.in_ok-count.ensures.bytes c.remove.ensures;
      faults = c.in_ok-count.ensures.cause.kept ∙ c.loop-inner.invariant.faults;
      held_back =
          back_passed (g.K.Sink.tells c.args.inner.now).flushing (g.K.Sink.tells c.loop-inner.inner).flushing (g.K.Sink.tells c.write.new.self).flushing
          c.loop-inner.held c.as_slice.result.now c.remove.new.self c.in_ok-count.count (length c.args.held.now) c.loop-inner.invariant.held_back c.as_slice.ensures c.in_ok-count.ensures.bound c.remove.ensures c.in_ok-count.ensures.held_back;
      unflushed = c.in_ok-count.ensures.unflushed ∙ c.loop-inner.invariant.unflushed;
    }
