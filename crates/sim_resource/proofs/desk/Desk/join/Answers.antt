use Rattle.std.proofs.Common.{arith}
use Rattle.sim_shared_model.specs.declared.desk.WaitingRequest.{WaitingRequest}
use Rattle.sim_resource.proofs.MachineQueues.{joined_is}
use Rattle.sim_resource.proofs.DeskChanges.{sound_joined}
use Rattle.sim_resource.proofs.desk.Desk.join.Goals as goal

pub invariant_of-self : goal.invariant_of-self
invariant_of-self c =
    let a = c.self.inside in
    let w : WaitingRequest = record { request = c.args.request; key = c.args.key; process = c.args.process } in
    let room = rw (← c.self.view_is) at c.requires.room in (
      rw (c.join.ensures.joined, c.goes_by_keys.ensures)
          (sound_joined a.kind a.capacity a.queue.items a.users c.self.invariant.0 w (rw (← c.self.view_is) at c.requires.not_waiting) (rw (← c.self.view_is) at c.requires.no_user)),
      record { places = omega (arith, room, c.self.invariant.1.places, c.join.ensures.len, c.join.ensures.capacity); slots = omega (arith, room, c.self.invariant.1.slots, c.join.ensures.len) },
    )

pub returns-clause-queue : goal.returns-clause-queue
returns-clause-queue c = λ res.
    let a = c.self.inside in
    let w : WaitingRequest = record { request = c.args.request; key = c.args.key; process = c.args.process } in
    rw (← c.self.view_is, c.join.ensures.joined, c.goes_by_keys.ensures) (joined_is a.kind res w a.queue.items c.self.invariant.0.by_keys)
