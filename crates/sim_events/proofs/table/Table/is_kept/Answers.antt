use Rattle.std.proofs.Common.{sym, ap, ◌∙◌, is_some}
use Rattle.sim_events.proofs.Placing.{kept_is_placed}
use Rattle.sim_events.proofs.table.Table.is_kept.Goals as goal

pub returns : goal.returns
returns c =
    rw (← c.self.view_is) (c.is_some.ensures ∙ ap is_some c.get.ensures ∙ sym (kept_is_placed c.self.inside.index.places c.self.inside.store c.self.invariant.placed c.args.event.0))
