use Rattle.std.proofs.Common.{take}
use Rattle.sim_steps_model.specs.Opening.{IsOpening, KeepsButProcesses}
use Rattle.sim_kernel.specs.Opening.{HasStarted}
use Rattle.sim_kernel.proofs.opening.start_all.Given as goal

-- the processes of the starts so far are made
abbrev pub invariant-loop-start : goal.invariant-loop-start
invariant-loop-start g l =
    record {
      kept : KeepsButProcesses l.initial.parts l.parts;
      opening : IsOpening g.B.LawfulBody.body l.parts;
      started : HasStarted g.B.LawfulBody.body (take l.start-index l.initial.parts.setup.starts) l.initial.parts l.parts;
    }
