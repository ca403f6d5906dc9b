use Rattle.std.proofs.Common.{refl, arith}
use Rattle.sim_events.specs.Slots.{new_slot}
use Rattle.sim_events.proofs.Parts.{parts_plain}
use Rattle.sim_events.proofs.Extending.{sound_made, events_made}
use Rattle.sim_events.proofs.table.Table.make.Goals as goal

pub invariant_of-self : goal.invariant_of-self
invariant_of-self c =
    let t = c.self.invariant in
    let spare = rw (← c.self.view_is) at c.requires.spare in
    let a = rw c.new.ensures.slot at c.add.ensures.adds in
    let p = parts_plain c.self.inside.store.parts t.stored.part_owner a.key (new_slot c.args.kind c.new.result.callbacks) refl t.stored.parts_fit in
    sound_made c.self.inside.index c.add.new.index c.self.inside.store c.add.new.slots c.self.inside.store.parts c.self.inside.left t (new_slot c.args.kind c.new.result.callbacks) a p c.new.ensures.none (omega arith) (refl, refl)

pub returns-clause-events : goal.returns-clause-events
returns-clause-events c =
    let t = c.self.invariant in
    let a = rw c.new.ensures.slot at c.add.ensures.adds in
    let p = parts_plain c.self.inside.store.parts t.stored.part_owner a.key (new_slot c.args.kind c.new.result.callbacks) refl t.stored.parts_fit in
    rw (← c.self.view_is) (events_made c.self.inside.index c.add.new.index c.self.inside.store c.add.new.slots c.self.inside.store.parts c.self.inside.left t (new_slot c.args.kind c.new.result.callbacks) a p c.new.ensures.none)
