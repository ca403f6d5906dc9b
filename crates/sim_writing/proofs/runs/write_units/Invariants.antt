use Rattle.std.proofs.Common.{◌≡◌, ◌-◌, Ok}
use Rattle.sim_outside.specs.Writes.{IsUnflushed}
use Rattle.sim_steps_model.specs.PartsOf.{IsOpenedAs}
use Rattle.sim_writing.specs.WrittenRuns.{HasWritten}
use Rattle.sim_writing.proofs.runs.write_units.Given as goal

-- the lines of the units that were made are written
abbrev pub invariant-loop-units : goal.invariant-loop-units
invariant-loop-units g l =
    record {
      written : HasWritten g.B.LawfulBody.body l.ports (g.K.Sink.tells l.initial.out) (g.K.Sink.tells l.out) (Ok tt) l.initial.walk l.walk;
      opened : IsOpenedAs l.initial.walk.kernel.parts l.walk.kernel.parts;
      limit : l.walk.limit ≡ l.initial.walk.limit;
      unflushed : IsUnflushed (g.K.Sink.tells l.initial.out) (g.K.Sink.tells l.out);
    }

-- a round makes a unit
abbrev pub decreases-loop-units : goal.decreases-loop-units
decreases-loop-units g l = l.walk.limit - l.walk.kernel.units
