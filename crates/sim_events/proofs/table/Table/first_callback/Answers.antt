use Rattle.sim_events.proofs.Rewriting.{own_chain}
use Rattle.sim_events.proofs.table.Table.first_callback.Goals as goal

pub first-requires : goal.first-requires
first-requires c =
    own_chain c.self.inside.index.places c.self.inside.store c.self.inside.left c.self.invariant c.args.event c.key_of.result c.index-slot.result.now c.key_of.ensures c.index-slot.ensures
