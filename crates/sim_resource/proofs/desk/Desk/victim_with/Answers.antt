use Rattle.std.proofs.Common.{pos, sym, ◌∙◌}
use Rattle.sim_types.specs.declared.setup.Resource.{Resource}
use Rattle.sim_shared_model.specs.DeskOf.{resource_kind}
use Rattle.sim_resource.proofs.MachineQueues.{victim_once_joined}
use Rattle.sim_resource.proofs.desk.Desk.victim_with.Goals as goal

pub returns : goal.returns
returns c = λ res request process.
    let a = c.self.inside in
    let r : Resource = record { kind = resource_kind a.kind; capacity = pos a.capacity; opening = pos 0 } in
    let victim = rw (← c.self.view_is, c.first_key_with-first.ensures, c.goes_by_keys.ensures) at c.victim_of.ensures.victim in
    rw (← c.self.view_is)
    (victim ∙ sym (victim_once_joined r res (record { request = request; key = c.args.key; process = process }) a.users.users a.kind a.queue.items c.self.invariant.0.by_keys))
