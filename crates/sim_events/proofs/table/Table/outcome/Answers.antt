use Rattle.std.proofs.Common.{ap, sym, ◌∙◌}
use Rattle.sim_happen_model.specs.TableOf.{Kept, kept_at}
use Rattle.sim_events.specs.Stores.{events_in}
use Rattle.sim_events.proofs.Placing.{kept_found}
use Rattle.sim_events.proofs.Rewriting.{is_kept}
use Rattle.sim_events.proofs.Outcomes.{none_is_pending}
use Rattle.sim_events.proofs.table.Table.outcome.Goals as goal

pub returns-clause-pending : goal.returns-clause-pending
returns-clause-pending c =
    let t = c.self.invariant in
    let events = events_in c.self.inside.index.places c.self.inside.store in
    let ordered = t.in_order c.args.event (is_kept _ _ _ t c.args.event c.key_of.result c.key_of.ensures) in
    let seen = kept_found c.self.inside.index.places c.self.inside.store c.args.event c.key_of.result c.index.result.now c.key_of.ensures c.index.ensures in
    let is = c.outcome.ensures ∙ ap (λ (k : Kept). k.event.outcome) (sym seen) in
    rw (← c.self.view_is) (rw is (none_is_pending (kept_at events c.args.event).event ordered.1))
