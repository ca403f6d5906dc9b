use Rattle.std.proofs.Common.{◌+◌}
use Rattle.slab.specs.Slab.{with_value}
use Rattle.sim_machine.specs.State.{ConditionOf}
use Rattle.sim_happen_model.specs.Changes.{on_condition}
use Rattle.sim_events.proofs.Rewriting.{Rewrites, is_kept, rewrites_condition, sound_rewritten}
use Rattle.sim_events.proofs.table.Table.count_member.Goals as goal

rewritten : (c : goal.After-self-1)
    → Rewrites c.self.inside.index.places c.self.inside.store
    (record c.self.inside.store { parts = with_value c.self.inside.store.parts c.index.result.now.part c.count_member.new.self }) c.self.inside.left
    c.args.event (on_condition (λ (x : ConditionOf). record x { count = x.count + 1 }))
rewritten c =
    rewrites_condition c.self.inside.index.places c.self.inside.store c.self.inside.left c.self.invariant c.args.event c.key_of.result c.index.result.now c.key_of.ensures c.index.ensures c.index_mut.result.now c.count_member.new.self (λ (x : ConditionOf). record x { count = x.count + 1 }) (rw (← c.self.view_is) at c.requires.condition) c.index_mut.ensures.value c.count_member.ensures

pub invariant_of-self : goal.invariant_of-self
invariant_of-self c =
    let t = c.self.invariant in
    sound_rewritten _ _ _ _ _ t c.args.event c.key_of.result c.key_of.ensures (on_condition (λ (x : ConditionOf). record x { count = x.count + 1 })) (rewritten c) (t.in_order c.args.event (is_kept _ _ _ t c.args.event c.key_of.result c.key_of.ensures))

pub returns-clause-events : goal.returns-clause-events
returns-clause-events c = rw (← c.self.view_is) (rewritten c).events
