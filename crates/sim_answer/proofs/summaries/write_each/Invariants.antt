use Rattle.std.proofs.Common.{take, Ok}
use Rattle.sim_outside.specs.Writes.{IsUnflushed, Writes}
use Rattle.sim_trace.specs.SummaryTexts.{replications_text}
use Rattle.sim_writing.specs.declared.fault.RunFault.{RunFault}
use Rattle.sim_writing.specs.RunFaults.{is_write}
use Rattle.sim_answer.proofs.summaries.write_each.Given as goal

-- the lines of the runs so far are written
abbrev pub invariant-loop-index : goal.invariant-loop-index
invariant-loop-index g l =
    record {
      written :
          Writes {T = Unit {0}} {E = RunFault} is_write (g.K.Sink.tells l.initial.out) (g.K.Sink.tells l.out) (Ok tt)
          (replications_text 0 (take l.index l.summaries));
      unflushed : IsUnflushed (g.K.Sink.tells l.initial.out) (g.K.Sink.tells l.out);
    }
