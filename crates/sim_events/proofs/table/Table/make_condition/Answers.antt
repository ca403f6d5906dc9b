use Rattle.std.proofs.Common.{◌++◌, ◌∷◌, [], true, Option, Some, refl, sym, ap, ◌∙◌, arith}
use Rattle.std.proofs.lemmas.Option.{same_Some}
use Rattle.sim_types.specs.declared.event.EventKind.TheVariants as kind
use Rattle.sim_machine.specs.State.{ConditionOf}
use Rattle.sim_events.specs.declared.slot.Slot.{Slot}
use Rattle.sim_events.specs.Slots.{new_slot}
use Rattle.sim_events.specs.Stores.{events_in}
use Rattle.sim_happen_model.specs.TableOf.{Kept}
use Rattle.sim_events.proofs.Parts.{parts_updated, free_vacant}
use Rattle.sim_events.proofs.Storing.{kept_with}
use Rattle.sim_events.proofs.Extending.{sound_made, events_made}
use Rattle.sim_events.proofs.table.Table.make_condition.Goals as goal

pub invariant_of-self : goal.invariant_of-self
invariant_of-self c =
    let t = c.self.invariant in
    let spare = rw (← c.self.view_is) at c.requires.spare in
    let spare_conditions = rw (← c.self.view_is) at c.requires.spare_conditions in
    let x : Slot = record (new_slot kind.Cond c.new-slot.result.callbacks) { is_condition = true; part = c.insert_reserved.result } in
    let a = rw c.new-slot.ensures.slot at c.add.ensures.adds in
    let insert = c.insert_reserved.ensures in
    let p = parts_updated c.self.inside.store.parts c.insert_reserved.new.self t.stored.part_owner a.key c.insert_reserved.result (Some c.new.result) insert.updates (Some x) (free_vacant c.self.inside.store.parts t.stored.part_owner a.key c.insert_reserved.result insert.was_vacant) (λ z is holds. (ap (λ (y : Slot). y.part) (sym (same_Some x z is)), refl)) (omega (arith, insert.len, insert.capacity)) in
    sound_made c.self.inside.index c.add.new.index c.self.inside.store c.add.new.slots c.insert_reserved.new.self c.self.inside.left t x a p c.new-slot.ensures.none (omega arith) (refl, refl)

pub returns-clause-events : goal.returns-clause-events
returns-clause-events c =
    let t = c.self.invariant in
    let spare_conditions = rw (← c.self.view_is) at c.requires.spare_conditions in
    let x : Slot = record (new_slot kind.Cond c.new-slot.result.callbacks) { is_condition = true; part = c.insert_reserved.result } in
    let a = rw c.new-slot.ensures.slot at c.add.ensures.adds in
    let insert = c.insert_reserved.ensures in
    let p = parts_updated c.self.inside.store.parts c.insert_reserved.new.self t.stored.part_owner a.key c.insert_reserved.result (Some c.new.result) insert.updates (Some x) (free_vacant c.self.inside.store.parts t.stored.part_owner a.key c.insert_reserved.result insert.was_vacant) (λ z is holds. (ap (λ (y : Slot). y.part) (sym (same_Some x z is)), refl)) (omega (arith, insert.len, insert.capacity)) in
    let seen = insert.updates.changed ∙ ap (λ (y : ConditionOf). let o : Option ConditionOf = Some y in o) c.new.ensures in
    rw (← c.self.view_is)
    (events_made c.self.inside.index c.add.new.index c.self.inside.store c.add.new.slots c.insert_reserved.new.self c.self.inside.left t x a p c.new-slot.ensures.none
    ∙ ap (λ (o : Option ConditionOf). events_in c.self.inside.index.places c.self.inside.store ++ (let k : Option Kept = Some (kept_with x [] o) in k) ∷ []) seen)
