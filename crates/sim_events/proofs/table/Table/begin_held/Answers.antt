use Rattle.std.proofs.Common.{◌+◌, ◌∙◌, true, refl, sym, ap, arith}
use Rattle.slab.specs.Slab.{with_value}
use Rattle.sim_callbacks.specs.declared.chain.Chain.{Chain}
use Rattle.sim_events.specs.declared.slot.Slot.{Slot}
use Rattle.sim_happen_model.specs.TableOf.{Kept, kept_at}
use Rattle.sim_happen_model.specs.Changes.{with_processed, with_holder}
use Rattle.sim_events.specs.Slots.{condition_in}
use Rattle.sim_events.specs.Stores.{events_in}
use Rattle.sim_events.proofs.Storing.{kept_with}
use Rattle.sim_events.proofs.Rewriting.{Rewrites, rewrites_begun, sound_rewritten}
use Rattle.sim_events.proofs.KeptLists.{held_needed}
use Rattle.sim_events.proofs.table.Table.begin_held.Goals as goal

-- the slot once its event is processed and has a holder more
abbrev begun : Slot → Chain → Slot
begun x none = record x { holders = x.holders + 1; processed = true; callbacks = none }

abbrev changed : Kept → Kept
changed k = with_processed (with_holder k)

rewritten : (c : goal.After-self-1)
    → Rewrites c.self.inside.index.places c.self.inside.store
    (record c.self.inside.store { slots = with_value c.self.inside.store.slots c.in-Some.key (begun c.index_mut-slot.result.now c.take-callbacks.new.self) })
    c.index_mut-slot.result.now.callbacks c.args.event changed
rewritten c =
    let x = c.index_mut-slot.result.now in
    let at = sym c.seek.ensures.place ∙ c.in-Some.is in
    let none = c.take-callbacks.ensures.empty in
    let y = begun x c.take-callbacks.new.self in
    rewrites_begun c.self.inside.index.places c.self.inside.store c.self.inside.left c.self.invariant c.args.event c.in-Some.key x at c.index_mut-slot.ensures.value y changed none (rw c.take-callbacks.ensures.taken at c.take-callbacks.ensures.passed_on) refl refl (ap (λ cs. kept_with y cs (condition_in c.self.inside.store.parts x)) (none.none c.self.inside.store.nodes))

pub invariant_of-self : goal.invariant_of-self
invariant_of-self c =
    let t = c.self.invariant in
    let at = sym c.seek.ensures.place ∙ c.in-Some.is in
    let held = held_needed (changed (kept_at (events_in c.self.inside.index.places c.self.inside.store) c.args.event)) (omega arith) in
    rw (c.seek.ensures.same, c.take-callbacks.ensures.taken) (sound_rewritten _ _ _ _ _ t c.args.event c.in-Some.key at changed (rewritten c) (held, rw (← c.self.view_is) at c.requires.triggered))

pub returns-clause-events : goal.returns-clause-events
returns-clause-events c = rw (c.seek.ensures.same, ← c.self.view_is) (rewritten c).events
