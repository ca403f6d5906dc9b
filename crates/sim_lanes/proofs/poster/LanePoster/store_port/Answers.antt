use Rattle.std.proofs.Common.{rules}
use Rattle.sim_lanes.proofs.Posting.{may_store_port}
use Rattle.sim_lanes.proofs.poster.LanePoster.store_port.Goals as goal

pub store-requires : goal.store-requires
store-requires c = rw c.deref.ensures (may_store_port c.self.invariant c.self.view_is c.self.inside.seat.id c.cell.result c.from.result c.requires c.cell.ensures (search rules))
