use Rattle.std.proofs.Common.{arith, ap, ◌∙◌, length}
use Rattle.std.proofs.lemmas.List.{length_push}
use Rattle.sim_machine.specs.State.{User}
use Rattle.sim_resource.proofs.DeskChanges.{sound_served}
use Rattle.sim_resource.proofs.desk.Desk.serve_first.Goals as goal

pub invariant_of-self : goal.invariant_of-self
invariant_of-self c =
    let a = c.self.inside in
    let slot = rw (← c.self.view_is) at c.requires.slot in
    let more = ap length c.put.ensures.users ∙ length_push a.users.users c.new.result in (
      sound_served a.kind a.capacity a.queue.items a.users c.self.invariant.0 c.in-Some.first c.pop_front.new.self.items c.new.result c.put.new.self c.in-Some.ensures.items
          (ap (λ (u : User). u.request) c.new.ensures) slot c.put.ensures.users c.put.ensures.ranked,
      record { places = omega (arith, c.self.invariant.1.places, c.in-Some.ensures.cases, c.in-Some.ensures.capacity); slots = omega (arith, c.self.invariant.1.slots, slot, more, c.put.ensures.spare, c.in-Some.ensures.cases) },
    )
