use Rattle.std.proofs.Common.{◌++◌, ◌∷◌, [], Option, Some, refl, sym, ap, subst, ◌∙◌, arith}
use Rattle.sim_callbacks.specs.Chains.{IsEmpty}
use Rattle.sim_events.specs.declared.slot.Slot.{Slot}
use Rattle.sim_events.specs.Slots.{new_slot, slot_with_outcome}
use Rattle.sim_events.specs.Stores.{events_in, AddsSlot}
use Rattle.sim_happen_model.specs.TableOf.{Kept, IsInOrder}
use Rattle.sim_events.proofs.Parts.{KeepsParts, parts_plain}
use Rattle.sim_events.proofs.Outcomes.{made_with}
use Rattle.sim_events.proofs.Extending.{sound_made, events_made}
use Rattle.sim_events.proofs.table.Table.make_triggered.Goals as goal

-- the slot of the event
abbrev slot_of : (c : goal.After-add) → Slot
slot_of c = slot_with_outcome c.args.outcome (new_slot c.args.kind c.new-slot.result.callbacks)

adds : (c : goal.After-add) → AddsSlot c.self.inside.index c.self.inside.store.slots (slot_of c) c.add.new.index c.add.new.slots
adds c = rw (c.set_outcome.ensures, c.new-slot.ensures.slot) at c.add.ensures.adds

none : (c : goal.After-add) → IsEmpty (slot_of c).callbacks
none c = subst IsEmpty (sym (made_with c.args.kind c.new-slot.result.callbacks c.args.outcome c.self.inside.store.parts).0) c.new-slot.ensures.none

plain : (c : goal.After-add)
    → KeepsParts c.self.inside.store.parts c.self.inside.store.parts c.self.invariant.stored.part_owner (adds c).key (Some (slot_of c))
plain c =
    let t = c.self.invariant in
    let made = made_with c.args.kind c.new-slot.result.callbacks c.args.outcome c.self.inside.store.parts in
    parts_plain c.self.inside.store.parts t.stored.part_owner (adds c).key (slot_of c) made.1 t.stored.parts_fit

pub invariant_of-self : goal.invariant_of-self
invariant_of-self c =
    let i = c.self.inside in
    let spare = rw (← c.self.view_is) at c.requires.spare in
    let made = made_with c.args.kind c.new-slot.result.callbacks c.args.outcome i.store.parts in
    sound_made i.index c.add.new.index i.store c.add.new.slots i.store.parts i.left c.self.invariant (slot_of c) (adds c) (plain c) (none c) (omega arith)
    (subst IsInOrder (sym made.2) (refl, refl))

pub returns-clause-events : goal.returns-clause-events
returns-clause-events c =
    let i = c.self.inside in
    let made = made_with c.args.kind c.new-slot.result.callbacks c.args.outcome i.store.parts in
    rw (← c.self.view_is)
    (events_made i.index c.add.new.index i.store c.add.new.slots i.store.parts i.left c.self.invariant (slot_of c) (adds c) (plain c) (none c)
    ∙ ap (λ (k : Kept). events_in i.index.places i.store ++ (let o : Option Kept = Some k in o) ∷ []) made.2)
