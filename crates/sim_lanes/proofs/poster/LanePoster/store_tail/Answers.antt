use Rattle.std.proofs.Common.{refl, ◌+◌}
use Rattle.sim_lanes.proofs.Posting.{may_store_tail}
use Rattle.sim_lanes.proofs.poster.LanePoster.store_tail.Goals as goal

pub store-requires : goal.store-requires
store-requires c = rw c.deref.ensures (may_store_tail c.self.invariant c.self.view_is c.self.inside.seat.id (c.self.inside.end.place + 1) (c.self.inside.end.count + 1) c.requires.written c.requires.few refl refl)
