use Rattle.std.proofs.Common.{arith}
use Rattle.sim_resource.proofs.DeskChanges.{sound_left}
use Rattle.sim_resource.proofs.desk.Desk.leave.Goals as goal

pub take_out-waited-requires : goal.take_out-waited-requires
take_out-waited-requires c = record { apart = c.self.invariant.0.apart.waiting }

pub invariant_of-self : goal.invariant_of-self
invariant_of-self c =
    let a = c.self.inside in
    (rw c.take_out-waited.ensures.others (sound_left a.kind a.capacity a.queue.items a.users c.self.invariant.0 c.args.request), record { places = omega arith; slots = omega arith })

pub invariant_of-self-else-waited : goal.invariant_of-self-else-waited
invariant_of-self-else-waited c = rw (c.take_out-waited.ensures.kept c.if-waited.false) c.self.invariant

pub returns-else-waited-clause-kept : goal.returns-else-waited-clause-kept
returns-else-waited-clause-kept c = λ _. rw (c.take_out-waited.ensures.kept c.if-waited.false) c.self.view_is
