use Rattle.std.proofs.Common.{ap, ℕ, ◌+◌}
use Rattle.sim_lanes.proofs.Taking.{may_load_tail}
use Rattle.sim_lanes.proofs.taker.LaneTaker.load_tail.Goals as goal

pub load-requires : goal.load-requires
load-requires c = rw c.deref.ensures (may_load_tail c.self.invariant c.self.view_is c.self.inside.seat.id c.args.p _ c.requires (ap (λ (k : ℕ). k + 1) c.end-tail.ensures.place))
