use Rattle.std.proofs.Common.{arith}
use Rattle.sim_resource.proofs.DeskChanges.{sound_released, some_served}
use Rattle.sim_resource.proofs.desk.Desk.preempt.Goals as goal

pub invariant_of-self : goal.invariant_of-self
invariant_of-self c =
    let a = c.self.inside in
    let served = some_served a.users.users (rw (← c.self.view_is) at c.requires.some) in
    let left = c.remove_last_served.ensures in (
      sound_released a.kind a.capacity a.queue.items a.users c.self.invariant.0 served.0.request c.remove_last_served.new.self (left.others served.0 served.1) left.ranked,
      record { places = c.self.invariant.1.places; slots = omega (arith, c.self.invariant.1.slots, c.self.invariant.0.within, left.fewer, left.spare) },
    )

pub returns-clause-slot : goal.returns-clause-slot
returns-clause-slot c = omega (arith, c.self.invariant.0.within, c.remove_last_served.ensures.fewer)
