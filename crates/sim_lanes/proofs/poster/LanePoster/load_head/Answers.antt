use Rattle.sim_lanes.proofs.Posting.{may_load_head}
use Rattle.sim_lanes.proofs.poster.LanePoster.load_head.Goals as goal

pub load-requires : goal.load-requires
load-requires c = rw c.deref.ensures (may_load_head c.self.invariant c.self.inside.seat.id)
