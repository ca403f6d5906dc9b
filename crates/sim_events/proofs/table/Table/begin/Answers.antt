use Rattle.std.proofs.Common.{◌-◌, ◌∙◌, true, refl, sym, ap, arith}
use Rattle.slab.specs.Slab.{with_value}
use Rattle.sim_callbacks.specs.declared.chain.Chain.{Chain}
use Rattle.sim_callbacks.specs.Chains.{callbacks_in}
use Rattle.sim_events.specs.declared.slot.Slot.{Slot}
use Rattle.sim_happen_model.specs.TableOf.{Kept, kept_at}
use Rattle.sim_happen_model.specs.Changes.{with_processed}
use Rattle.sim_events.specs.Slots.{condition_in}
use Rattle.sim_events.specs.Stores.{events_in}
use Rattle.sim_events.proofs.Slabs.{with_value_len, there_from}
use Rattle.sim_events.proofs.Storing.{kept_with}
use Rattle.sim_events.proofs.Placing.{kept_found}
use Rattle.sim_events.proofs.Rewriting.{Rewrites, rewrites_begun}
use Rattle.sim_events.proofs.Forgetting.{Forgotten, forgotten, freed_none}
use Rattle.sim_events.proofs.table.Table.begin.Goals as goal

-- the slot once its event is processed
abbrev begun : Slot → Chain → Slot
begun x none = record x { processed = true; callbacks = none }

rewritten : (c : goal.After-forget_unneeded-arg-2-1)
    → Rewrites c.self.inside.index.places c.self.inside.store
    (record c.self.inside.store { slots = with_value c.self.inside.store.slots c.in-Some.key (begun c.index_mut-slot.result.now c.take-self-inside.new.self) })
    c.index_mut-slot.result.now.callbacks c.args.event with_processed
rewritten c =
    let x = c.index_mut-slot.result.now in
    let at = sym c.seek.ensures.place ∙ c.in-Some.is in
    let none = c.take-self-inside.ensures.empty in
    rewrites_begun c.self.inside.index.places c.self.inside.store c.self.inside.left c.self.invariant c.args.event c.in-Some.key x at c.index_mut-slot.ensures.value (begun x c.take-self-inside.new.self) with_processed none (rw c.take-self-inside.ensures.taken at c.take-self-inside.ensures.passed_on) refl refl (ap (λ cs. kept_with (begun x c.take-self-inside.new.self) cs (condition_in c.self.inside.store.parts x)) (none.none c.self.inside.store.nodes))

pub forget_unneeded-requires-clause-store : goal.forget_unneeded-requires-clause-store
forget_unneeded-requires-clause-store c = record { left = c.index_mut-slot.result.now.callbacks; stored = (rewritten c).stored }

pub forget_unneeded-requires-clause-placed : goal.forget_unneeded-requires-clause-placed
forget_unneeded-requires-clause-placed c = rw c.seek.ensures.same (rewritten c).placed

done : (c : goal.After-forget_unneeded)
    → Forgotten c.self.inside.index c.self.inside.store c.self.inside.left c.forget_unneeded.new.index c.forget_unneeded.new.store
    c.take-self-inside.result c.args.event with_processed
done c =
    let x = c.index_mut-slot.result.now in
    let y = begun x c.take-self-inside.new.self in
    let at = sym c.seek.ensures.place ∙ c.in-Some.is in
    let r = rewritten c.before in
    let d = rw c.seek.ensures.same at (c.forget_unneeded.ensures x.callbacks r.stored) in
    let same = ap (λ n. c.self.inside.store.slots.capacity - n) (with_value_len c.self.inside.store.slots c.in-Some.key y (there_from c.self.inside.store.slots c.in-Some.key x c.index_mut-slot.ensures.value)) in
    rw c.take-self-inside.ensures.taken (forgotten c.self.inside.index c.forget_unneeded.new.index c.self.inside.store _ c.forget_unneeded.new.store c.self.inside.left x.callbacks c.self.invariant c.args.event c.in-Some.key with_processed at r same refl refl (rw (← c.self.view_is) at c.requires.triggered) d)

pub invariant_of-self : goal.invariant_of-self
invariant_of-self c = (done c).sound

pub returns-clause-events : goal.returns-clause-events
returns-clause-events c = rw (← c.self.view_is) (done c).events

pub returns-clause-left : goal.returns-clause-left
returns-clause-left c =
    let at = sym c.seek.ensures.place ∙ c.in-Some.is in
    let seen = kept_found c.self.inside.index.places c.self.inside.store c.args.event c.in-Some.key c.index_mut-slot.result.now at c.index_mut-slot.ensures.value in
    rw (← c.self.view_is) ((done c).left ∙ ap (λ chain. callbacks_in c.self.inside.store.nodes chain) c.take-self-inside.ensures.taken ∙ sym (ap (λ (k : Kept). k.callbacks) seen))

pub returns-clause-kept_and_spare : goal.returns-clause-kept_and_spare
returns-clause-kept_and_spare c = rw (← c.self.view_is) (done c).all

pub returns-clause-callbacks : goal.returns-clause-callbacks
returns-clause-callbacks c =
    let none = freed_none (with_processed (kept_at (events_in c.self.inside.index.places c.self.inside.store) c.args.event)) refl in
    rw (← c.self.view_is) (omega (arith, (done c).callbacks, none))

pub returns-clause-conditions : goal.returns-clause-conditions
returns-clause-conditions c = rw (← c.self.view_is) (done c).conditions
