use Rattle.std.proofs.Common.{pos, true, ap, refl, ◌∙◌}
use Rattle.slab.specs.Slab.{Slab, HasRoomFor}
use Rattle.sim_types.specs.declared.event.EventKind.TheVariants as kind
use Rattle.sim_types.specs.declared.event.Outcome.TheVariants as outcome
use Rattle.sim_index.specs.IndexOf.{IndexOf}
use Rattle.sim_events.specs.declared.slot.Slot.{Slot}
use Rattle.sim_events.specs.declared.store.Store.{Store}
use Rattle.sim_events.specs.Slots.{new_slot, slot_with_outcome}
use Rattle.sim_events.proofs.Parts.{parts_plain}
use Rattle.sim_events.proofs.Extending.{sound_none, sound_made}
use Rattle.sim_events.proofs.table.Table.new.Goals as goal

pub invariant_of-result : goal.invariant_of-result
invariant_of-result c =
    let no_place = ap (λ (i : IndexOf). i.places) c.in_ok-reserve.ensures.places ∙ c.new-index.ensures.places in
    let no_slot = ap (λ (s : Slab Slot). s.slots) c.in_ok-reserve-2.ensures.rest_kept ∙ c.new-slots.ensures.empty in
    let s : Store = record { slots = c.reserve-2.new.self; nodes = c.new.result; parts = c.new-2.result } in
    let t = sound_none c.reserve.new.self.places s c.new-3.result no_place no_slot c.new-2.ensures.empty c.new-3.ensures in
    let x : Slot = record (slot_with_outcome (outcome.Ok (pos 0)) (new_slot kind.Plain c.new-first.result.callbacks)) { processed = true; holders = 1 } in
    let a = rw (c.set_outcome.ensures, c.new-first.ensures.slot) at c.add.ensures.adds in
    let room : HasRoomFor c.reserve-2.new.self 1 = c.in_ok-reserve-2.ensures.room in
    sound_made c.reserve.new.self c.add.new.index s c.add.new.slots c.new-2.result c.new-3.result t x a (parts_plain c.new-2.result t.stored.part_owner a.key x refl t.stored.parts_fit) c.new-first.ensures.none room (refl, refl)
