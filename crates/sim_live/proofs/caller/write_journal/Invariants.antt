use Rattle.std.proofs.Common.{Ok, take}
use Rattle.sim_outside.specs.Writes.{IsUnflushed, Writes}
use Rattle.sim_trace.specs.Texts.{journal_text}
use Rattle.sim_writing.specs.declared.fault.RunFault.{RunFault}
use Rattle.sim_writing.specs.RunFaults.{is_write}
use Rattle.sim_live.proofs.caller.write_journal.Given as goal

-- the first entries are written
abbrev pub invariant-loop-entry : goal.invariant-loop-entry
invariant-loop-entry g l =
    record {
      written :
          Writes {T = Unit {0}} {E = RunFault} is_write (g.K.Sink.tells l.fn.out) (g.K.Sink.tells l.out) (Ok tt)
          (journal_text l.ports (take l.entry-index l.journal));
      unflushed : IsUnflushed (g.K.Sink.tells l.fn.out) (g.K.Sink.tells l.out);
    }
