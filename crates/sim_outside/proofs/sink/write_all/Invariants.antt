use Rattle.std.proofs.Common.{◌≡◌, length}
use Rattle.sim_outside.specs.Writes.{AppendsFront, IsUnflushed}
use Rattle.sim_outside.proofs.sink.write_all.Given as goal

abbrev pub invariant-loop-rest : goal.invariant-loop-rest
invariant-loop-rest g l =
    record {
      written : AppendsFront (g.K.Sink.tells l.fn.out).taken (g.K.Sink.tells l.out).taken l.piece l.rest;
      faults : (g.K.Sink.tells l.out).faults ≡ (g.K.Sink.tells l.fn.out).faults;
      unflushed : IsUnflushed (g.K.Sink.tells l.fn.out) (g.K.Sink.tells l.out);
    }

abbrev pub decreases-loop-rest : goal.decreases-loop-rest
decreases-loop-rest g l = length l.rest
