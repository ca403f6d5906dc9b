use Rattle.std.proofs.Common.{◌≡◌, ◌∙◌, Bool, true, false, None, is_some, refl, sym, ap, cond, arith}
use Rattle.std.proofs.lemmas.Option.{same_Some}
use Rattle.slab.specs.Slab.{get}
use Rattle.sim_machine.specs.Standing.{one_if}
use Rattle.sim_happen_model.specs.TableOf.{Kept, kept_at, is_needed}
use Rattle.sim_happen_model.specs.Changes.{without_holder, conditions_freed}
use Rattle.sim_events.specs.Slots.{kept_in}
use Rattle.sim_events.specs.declared.slot.Slot.{Slot}
use Rattle.sim_events.specs.Stores.{events_in}
use Rattle.sim_events.proofs.Placing.{kept_found}
use Rattle.sim_events.proofs.Rewriting.{rewrites_released}
use Rattle.sim_events.proofs.Forgetting.{Forgotten, released}
use Rattle.sim_events.proofs.table.Table.unhold_plain.Goals as goal

pub forget_unneeded-requires-clause-store : goal.forget_unneeded-requires-clause-store
forget_unneeded-requires-clause-store c =
    let i = c.self.inside in
    let r = rewrites_released i.index.places i.store i.left c.self.invariant c.args.event c.key_of-key.result c.index_mut-slot.result.now c.key_of-key.ensures
    c.index_mut-slot.ensures.value in
    record { left = i.left; stored = r.stored }

done : (c : goal.After-forget_unneeded)
    → Forgotten c.self.inside.index c.self.inside.store c.self.inside.left c.forget_unneeded.new.index c.forget_unneeded.new.store c.self.inside.left
    c.args.event without_holder
done c =
    let i = c.self.inside in
    let at = c.key_of-key.ensures in
    let found = c.index_mut-slot.ensures.value in
    released i.index c.forget_unneeded.new.index i.store c.forget_unneeded.new.store i.left c.self.invariant c.args.event c.key_of-key.result
    c.index_mut-slot.result.now at found c.forget_unneeded.ensures

-- the event is that of the slot
found_as : (c : goal.After-forget_unneeded)
    → kept_at (events_in c.self.inside.index.places c.self.inside.store) c.args.event
    ≡ kept_in c.self.inside.store.nodes c.self.inside.store.parts c.index_mut-slot.result.now
found_as c =
    let i = c.self.inside in
    kept_found i.index.places i.store c.args.event c.key_of-key.result c.index_mut-slot.result.now c.key_of-key.ensures c.index_mut-slot.ensures.value

-- it is no condition, so none goes with it
is_plain : (c : goal.After-forget_unneeded) → (kept_at (events_in c.self.inside.index.places c.self.inside.store) c.args.event).event.condition ≡ None
is_plain c =
    let i = c.self.inside in
    let same : c.index.result.now ≡ c.index_mut-slot.result.now = same_Some _ _ (sym c.index.ensures ∙ c.index_mut-slot.ensures.value) in
    let no_part = ap (λ (x : Slot). x.is_condition) (sym same) ∙ c.if-index.false in
    ap (λ (k : Kept). k.event.condition) (found_as c) ∙ ap (λ b. cond b (get i.store.parts c.index_mut-slot.result.now.part) None) no_part

none_freed : (k : Kept) → k.event.condition ≡ None → conditions_freed (without_holder k) ≡ 0
none_freed k none = go (is_needed (without_holder k))
  where
    go : (b : Bool) → cond b 0 (one_if (is_some k.event.condition)) ≡ 0
    go true = refl
    go false = rw none refl

pub invariant_of-self : goal.invariant_of-self
invariant_of-self c = (done c).sound

pub returns-clause-plain : goal.returns-clause-plain
returns-clause-plain c = rw (← c.self.view_is, is_plain c) refl

pub returns-clause-unhandled : goal.returns-clause-unhandled
returns-clause-unhandled c = rw (← c.self.view_is, found_as c) c.is_unhandled-unhandled.ensures

pub returns-clause-events : goal.returns-clause-events
returns-clause-events c = rw (← c.self.view_is) (done c).events

pub returns-clause-left : goal.returns-clause-left
returns-clause-left c = rw (← c.self.view_is) (done c).left

pub returns-clause-kept_and_spare : goal.returns-clause-kept_and_spare
returns-clause-kept_and_spare c = rw (← c.self.view_is) (done c).all

pub returns-clause-callbacks : goal.returns-clause-callbacks
returns-clause-callbacks c = rw (← c.self.view_is) (done c).callbacks

pub returns-clause-conditions : goal.returns-clause-conditions
returns-clause-conditions c =
    let i = c.self.inside in
    rw (← c.self.view_is) (omega (arith, (done c).conditions, none_freed (kept_at (events_in i.index.places i.store) c.args.event) (is_plain c)))
