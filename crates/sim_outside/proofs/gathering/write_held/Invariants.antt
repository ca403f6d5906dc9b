use Rattle.std.proofs.Common.{◌≡◌, length}
use Rattle.sim_outside.specs.Writes.{AppendsFront, IsUnflushed, taking}
use Rattle.sim_outside.proofs.gathering.write_held.Given as goal

abbrev pub invariant-loop-inner : goal.invariant-loop-inner
invariant-loop-inner g l =
    record {
      passed : AppendsFront (g.K.Sink.tells l.fn.inner).taken (g.K.Sink.tells l.inner).taken l.fn.held l.held;
      faults : (g.K.Sink.tells l.inner).faults ≡ (g.K.Sink.tells l.fn.inner).faults;
      held_back : taking (length l.held) (g.K.Sink.tells l.inner).flushing ≡ taking (length l.fn.held) (g.K.Sink.tells l.fn.inner).flushing;
      unflushed : IsUnflushed (g.K.Sink.tells l.fn.inner) (g.K.Sink.tells l.inner);
    }

abbrev pub decreases-loop-inner : goal.decreases-loop-inner
decreases-loop-inner g l = length l.held
