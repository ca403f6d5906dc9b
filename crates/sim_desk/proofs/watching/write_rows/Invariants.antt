use Rattle.std.proofs.Common.{take, Ok}
use Rattle.sim_outside.specs.Writes.{IsUnflushed, Writes}
use Rattle.sim_trace.specs.WatchTexts.{rows_text}
use Rattle.sim_writing.specs.declared.fault.RunFault.{RunFault}
use Rattle.sim_writing.specs.RunFaults.{is_write}
use Rattle.sim_desk.proofs.watching.write_rows.Given as goal

-- the lines of the resources so far are written
abbrev pub invariant-loop-res : goal.invariant-loop-res
invariant-loop-res g l =
    record {
      written :
          Writes {T = Unit {0}} {E = RunFault} is_write (g.K.Sink.tells l.initial.out) (g.K.Sink.tells l.out) (Ok tt)
          (rows_text 0 (take l.res l.rows));
      unflushed : IsUnflushed (g.K.Sink.tells l.initial.out) (g.K.Sink.tells l.out);
    }
