use Rattle.std.proofs.Common.{true, refl}
use Rattle.sim_happen_model.specs.Changes.{with_defused}
use Rattle.sim_events.proofs.Rewriting.{is_kept, rewrites_slot, sound_rewritten}
use Rattle.sim_events.proofs.table.Table.defuse.Goals as goal

pub invariant_of-self : goal.invariant_of-self
invariant_of-self c =
    let t = c.self.invariant in
    let x = c.index_mut.result.now in
    let r = rewrites_slot c.self.inside.index.places c.self.inside.store c.self.inside.left t c.args.event c.key_of-key.result x c.key_of-key.ensures c.index_mut.ensures.value (record x { defused = true }) with_defused refl refl refl refl in
    sound_rewritten _ _ _ _ _ t c.args.event c.key_of-key.result c.key_of-key.ensures with_defused r (t.in_order c.args.event (is_kept _ _ _ t c.args.event c.key_of-key.result c.key_of-key.ensures))

pub returns-clause-events : goal.returns-clause-events
returns-clause-events c =
    let x = c.index_mut.result.now in
    rw (← c.self.view_is) (rewrites_slot c.self.inside.index.places c.self.inside.store c.self.inside.left c.self.invariant c.args.event c.key_of-key.result x c.key_of-key.ensures c.index_mut.ensures.value (record x { defused = true }) with_defused refl refl refl refl).events
