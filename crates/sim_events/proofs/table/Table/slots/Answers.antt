use Rattle.std.proofs.Common.{sym, ◌∙◌}
use Rattle.sim_events.proofs.Placing.{count_placed}
use Rattle.sim_events.proofs.table.Table.slots.Goals as goal

pub returns-clause-count : goal.returns-clause-count
returns-clause-count c =
    rw (← c.self.view_is) (c.len.ensures ∙ sym (count_placed c.self.inside.index.places c.self.inside.store c.self.invariant.placed))

pub returns-clause-needed : goal.returns-clause-needed
returns-clause-needed c = rw (← c.self.view_is) (λ e kept. (c.self.invariant.in_order e kept).0)
