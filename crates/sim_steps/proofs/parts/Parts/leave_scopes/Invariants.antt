use Rattle.std.proofs.Common.{◌≤◌, ◌+◌, length}
use Rattle.sim_procs.specs.RecordOf.{record_of}
use Rattle.sim_machine.specs.MayAsk.{most_scopes}
use Rattle.sim_shared_model.specs.Measuring.{ChangesOnlyAt}
use Rattle.sim_steps_law.proofs.Scopes.LeavingEach.{LeavesSome, scope_count}
use Rattle.sim_steps.proofs.parts.Parts.leave_scopes.Given as goal

-- some scopes of the process were left, and the places of their resources are listed
abbrev pub invariant-loop-at : goal.invariant-loop-at
invariant-loop-at g l =
    record {
      some : LeavesSome g.B.LawfulBody.body l.fn.process l.fn.self l.self;
      touched : ChangesOnlyAt l.listed l.fn.self.shared l.self.shared;
      few : length l.listed + scope_count (record_of l.fn.process l.self.live) ≤ most_scopes;
    }

abbrev pub decreases-loop-at : goal.decreases-loop-at
decreases-loop-at g l = scope_count (record_of l.fn.process l.self.live)
