use Rattle.std.proofs.Common.{suc, ◌-◌, min, ap, sym, refl, ◌∙◌, arith}
use Rattle.std.specs.List.{list_any}
use Rattle.slab.specs.Slab.{with_value}
use Rattle.sim_callbacks.specs.Keeping.{Relinked}
use Rattle.sim_happen_model.specs.Changes.{without_callback}
use Rattle.sim_machine.specs.Callbacks.{is_same_callback}
use Rattle.sim_events.specs.declared.slot.Slot.{Slot}
use Rattle.sim_events.specs.Slots.{condition_in}
use Rattle.sim_events.specs.Stores.{table_of}
use Rattle.sim_happen_model.specs.TableOf.{Kept}
use Rattle.sim_events.proofs.Slabs.{with_value_len, there_from}
use Rattle.sim_events.proofs.Placing.{kept_found}
use Rattle.sim_events.proofs.Absent.{same_table, without_absent}
use Rattle.sim_events.proofs.Storing.{kept_with}
use Rattle.sim_events.proofs.Rewriting.{Rewrites, is_kept, own_chain, rewrites_chain, sound_rewritten}
use Rattle.sim_events.proofs.table.Table.unregister.Goals as goal

pub take_out-requires : goal.take_out-requires
take_out-requires c = own_chain c.self.inside.index.places c.self.inside.store c.self.inside.left c.self.invariant c.args.event c.key_of-key.result c.index_mut.result.now c.key_of-key.ensures c.index_mut.ensures.value

relinked : (c : goal.After-self-1)
    → Relinked c.self.inside.store.nodes c.take_out.new.self c.self.invariant.stored.owners (suc c.key_of-key.result) c.take_out.new.chain
relinked c =
    let t = c.self.invariant in
    c.take_out.ensures.others t.stored.owners (suc c.key_of-key.result) (t.stored.chains c.key_of-key.result c.index_mut.result.now c.index_mut.ensures.value)

rewritten : (c : goal.After-self-1)
    → Rewrites c.self.inside.index.places c.self.inside.store
    (record c.self.inside.store { slots = with_value c.self.inside.store.slots c.key_of-key.result (record c.index_mut.result.now { callbacks = c.take_out.new.chain }); nodes = c.take_out.new.self })
    c.self.inside.left c.args.event (without_callback c.args.callback)
rewritten c =
    let x = c.index_mut.result.now in
    rewrites_chain c.self.inside.index.places c.self.inside.store c.self.inside.left c.self.invariant c.args.event c.key_of-key.result x c.key_of-key.ensures c.index_mut.ensures.value c.take_out.new.self c.take_out.new.chain (without_callback c.args.callback) (relinked c) (ap (λ cs. kept_with x cs (condition_in c.self.inside.store.parts x)) c.take_out.ensures.callbacks)

pub invariant_of-self : goal.invariant_of-self
invariant_of-self c =
    let t = c.self.invariant in
    sound_rewritten _ _ _ _ _ t c.args.event c.key_of-key.result c.key_of-key.ensures (without_callback c.args.callback) (rewritten c) (t.in_order c.args.event (is_kept _ _ _ t c.args.event c.key_of-key.result c.key_of-key.ensures))

pub returns-clause-events : goal.returns-clause-events
returns-clause-events c = rw (← c.self.view_is) (rewritten c).events

pub returns-clause-left : goal.returns-clause-left
returns-clause-left c = rw (← c.self.view_is) ((relinked c).same 0 c.self.inside.left (λ e. omega (arith, e)) c.self.invariant.stored.left)

pub returns-clause-absent : goal.returns-clause-absent
returns-clause-absent c = λ absent.
    let t = c.self.invariant in
    let x = c.index_mut.result.now in
    let y : Slot = record x { callbacks = c.take_out.new.chain } in
    let old = table_of c.self.inside.index c.self.inside.store c.self.inside.left in
    let new = table_of c.self.inside.index (record c.self.inside.store { slots = with_value c.self.inside.store.slots c.key_of-key.result y; nodes = c.take_out.new.self }) c.self.inside.left in
    let kept = is_kept _ _ _ t c.args.event c.key_of-key.result c.key_of-key.ensures in
    let seen = kept_found c.self.inside.index.places c.self.inside.store c.args.event c.key_of-key.result x c.key_of-key.ensures c.index_mut.ensures.value in
    let none = ap (λ (k : Kept). list_any (is_same_callback c.args.callback) k.callbacks) seen ∙ sym c.take_out.ensures.found ∙ absent in
    let events = (rewritten c).events ∙ without_absent old.events c.args.event c.args.callback kept none in
    let left = (relinked c).same 0 c.self.inside.left (λ e. omega (arith, e)) t.stored.left in
    let room = ap (λ n. min c.self.inside.index.spare (c.self.inside.store.slots.capacity - n)) (with_value_len c.self.inside.store.slots c.key_of-key.result y (there_from c.self.inside.store.slots c.key_of-key.result x c.index_mut.ensures.value)) in
    rw (← c.self.view_is) (same_table new old c.take_out.result absent events left room c.take_out.ensures.spare refl)
