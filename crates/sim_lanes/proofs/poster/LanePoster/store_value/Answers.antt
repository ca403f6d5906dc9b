use Rattle.std.proofs.Common.{ap, ℕ, ◌+◌}
use Rattle.sim_lanes.proofs.Posting.{may_store_value}
use Rattle.sim_lanes.proofs.poster.LanePoster.store_value.Goals as goal

pub store-requires : goal.store-requires
store-requires c = rw c.deref.ensures (may_store_value c.self.invariant c.self.view_is c.self.inside.seat.id (c.cell.result + 1) c.cast_unsigned.result c.requires (ap (λ (k : ℕ). k + 1) c.cell.ensures))
