use Rattle.std.proofs.Common.{suc, ap, arith}
use Rattle.slab.specs.Slab.{with_value}
use Rattle.sim_callbacks.specs.Keeping.{Relinked}
use Rattle.sim_happen_model.specs.Changes.{with_callback}
use Rattle.sim_events.specs.Slots.{condition_in}
use Rattle.sim_events.proofs.Storing.{kept_with}
use Rattle.sim_events.proofs.Rewriting.{Rewrites, is_kept, own_chain, rewrites_chain, sound_rewritten}
use Rattle.sim_events.proofs.table.Table.register.Goals as goal

pub append-requires-clause-chain : goal.append-requires-clause-chain
append-requires-clause-chain c = own_chain c.self.inside.index.places c.self.inside.store c.self.inside.left c.self.invariant c.args.event c.key_of-key.result c.index_mut.result.now c.key_of-key.ensures c.index_mut.ensures.value

relinked : (c : goal.After-self-1)
    → Relinked c.self.inside.store.nodes c.append.new.self c.self.invariant.stored.owners (suc c.key_of-key.result) c.append.new.chain
relinked c =
    let t = c.self.invariant in
    c.append.ensures.others t.stored.owners (suc c.key_of-key.result) (t.stored.chains c.key_of-key.result c.index_mut.result.now c.index_mut.ensures.value)

rewritten : (c : goal.After-self-1)
    → Rewrites c.self.inside.index.places c.self.inside.store
    (record c.self.inside.store { slots = with_value c.self.inside.store.slots c.key_of-key.result (record c.index_mut.result.now { callbacks = c.append.new.chain }); nodes = c.append.new.self })
    c.self.inside.left c.args.event (with_callback c.args.callback)
rewritten c =
    let x = c.index_mut.result.now in
    rewrites_chain c.self.inside.index.places c.self.inside.store c.self.inside.left c.self.invariant c.args.event c.key_of-key.result x c.key_of-key.ensures c.index_mut.ensures.value c.append.new.self c.append.new.chain (with_callback c.args.callback) (relinked c) (ap (λ cs. kept_with x cs (condition_in c.self.inside.store.parts x)) c.append.ensures.callbacks)

pub invariant_of-self : goal.invariant_of-self
invariant_of-self c =
    let t = c.self.invariant in
    sound_rewritten _ _ _ _ _ t c.args.event c.key_of-key.result c.key_of-key.ensures (with_callback c.args.callback) (rewritten c) (t.in_order c.args.event (is_kept _ _ _ t c.args.event c.key_of-key.result c.key_of-key.ensures))

pub returns-clause-events : goal.returns-clause-events
returns-clause-events c = rw (← c.self.view_is) (rewritten c).events

pub returns-clause-left : goal.returns-clause-left
returns-clause-left c = rw (← c.self.view_is) ((relinked c).same 0 c.self.inside.left (λ e. omega (arith, e)) c.self.invariant.stored.left)
