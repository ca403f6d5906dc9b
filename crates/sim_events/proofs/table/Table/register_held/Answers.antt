use Rattle.std.proofs.Common.{◌+◌, suc, ap, arith, refl}
use Rattle.slab.specs.Slab.{with_value}
use Rattle.sim_callbacks.specs.Keeping.{Relinked}
use Rattle.sim_callbacks.specs.declared.chain.Chain.{Chain}
use Rattle.sim_events.specs.declared.slot.Slot.{Slot}
use Rattle.sim_happen_model.specs.TableOf.{Kept, kept_at}
use Rattle.sim_happen_model.specs.Changes.{with_callback, with_holder}
use Rattle.sim_events.specs.Slots.{condition_in}
use Rattle.sim_events.specs.Stores.{events_in}
use Rattle.sim_events.proofs.KeptLists.{held_needed}
use Rattle.sim_events.proofs.Storing.{kept_with}
use Rattle.sim_events.proofs.Rewriting.{Rewrites, is_kept, own_chain, rewrites_chained, sound_rewritten}
use Rattle.sim_events.proofs.table.Table.register_held.Goals as goal

-- the slot with a holder more, and with this chain
abbrev with_waiter : Slot → Chain → Slot
with_waiter x chain = record x { holders = x.holders + 1; callbacks = chain }

pub append-requires-clause-chain : goal.append-requires-clause-chain
append-requires-clause-chain c = own_chain c.self.inside.index.places c.self.inside.store c.self.inside.left c.self.invariant c.args.event c.key_of-key.result c.index_mut-awaited.result.now c.key_of-key.ensures c.index_mut-awaited.ensures.value

relinked : (c : goal.After-self-1)
    → Relinked c.self.inside.store.nodes c.append.new.self c.self.invariant.stored.owners (suc c.key_of-key.result) c.append.new.chain
relinked c =
    let t = c.self.invariant in
    c.append.ensures.others t.stored.owners (suc c.key_of-key.result) (t.stored.chains c.key_of-key.result c.index_mut-awaited.result.now c.index_mut-awaited.ensures.value)

rewritten : (c : goal.After-self-1)
    → Rewrites c.self.inside.index.places c.self.inside.store
    (record c.self.inside.store { slots = with_value c.self.inside.store.slots c.key_of-key.result (with_waiter c.index_mut-awaited.result.now c.append.new.chain); nodes = c.append.new.self })
    c.self.inside.left c.args.event (λ k. with_callback c.args.callback (with_holder k))
rewritten c =
    let x = c.index_mut-awaited.result.now in
    rewrites_chained c.self.inside.index.places c.self.inside.store c.self.inside.left c.self.invariant c.args.event c.key_of-key.result x c.key_of-key.ensures c.index_mut-awaited.ensures.value c.append.new.self (with_waiter x c.append.new.chain)
    (λ k. with_callback c.args.callback (with_holder k)) (relinked c) refl refl (ap (λ cs. kept_with (record x { holders = x.holders + 1 }) cs (condition_in c.self.inside.store.parts x)) c.append.ensures.callbacks)

pub invariant_of-self : goal.invariant_of-self
invariant_of-self c =
    let t = c.self.invariant in
    let kept : Kept = kept_at (events_in c.self.inside.index.places c.self.inside.store) c.args.event in
    sound_rewritten _ _ _ _ _ t c.args.event c.key_of-key.result c.key_of-key.ensures (λ k. with_callback c.args.callback (with_holder k)) (rewritten c)
    (held_needed (with_callback c.args.callback (with_holder kept)) (omega arith), (t.in_order c.args.event (is_kept _ _ _ t c.args.event c.key_of-key.result c.key_of-key.ensures)).1)

pub returns-clause-events : goal.returns-clause-events
returns-clause-events c = rw (← c.self.view_is) (rewritten c).events

pub returns-clause-left : goal.returns-clause-left
returns-clause-left c = rw (← c.self.view_is) ((relinked c).same 0 c.self.inside.left (λ e. omega (arith, e)) c.self.invariant.stored.left)
