use Rattle.sim_happen_model.specs.Changes.{with_outcome}
use Rattle.sim_events.proofs.Rewriting.{is_kept, sound_rewritten}
use Rattle.sim_events.proofs.Outcomes.{rewrites_outcome, settled_by}
use Rattle.sim_events.proofs.table.Table.set.Goals as goal

pub invariant_of-self : goal.invariant_of-self
invariant_of-self c =
    let t = c.self.invariant in
    let x = c.index_mut.result.now in
    let r = rewrites_outcome c.self.inside.index.places c.self.inside.store c.self.inside.left t c.args.event c.key_of-key.result x c.key_of-key.ensures c.index_mut.ensures.value c.args.outcome in
    rw c.set_outcome.ensures (sound_rewritten _ _ _ _ _ t c.args.event c.key_of-key.result c.key_of-key.ensures (with_outcome c.args.outcome) r ((t.in_order c.args.event (is_kept _ _ _ t c.args.event c.key_of-key.result c.key_of-key.ensures)).0, settled_by _))

pub returns-clause-events : goal.returns-clause-events
returns-clause-events c =
    let x = c.index_mut.result.now in
    rw (c.set_outcome.ensures, ← c.self.view_is) (rewrites_outcome c.self.inside.index.places c.self.inside.store c.self.inside.left c.self.invariant c.args.event c.key_of-key.result x c.key_of-key.ensures c.index_mut.ensures.value c.args.outcome).events
