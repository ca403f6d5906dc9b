use Rattle.std.proofs.Common.{ap, ℕ, ◌+◌, ◌∙◌}
use Rattle.sim_lanes.specs.Places.{cell}
use Rattle.sim_lanes.proofs.Taking.{may_load_value}
use Rattle.sim_lanes.proofs.taker.LaneTaker.load_value.Goals as goal

pub load-requires : goal.load-requires
load-requires c =
    let e = c.end.ensures in
    rw c.deref.ensures (may_load_value c.self.invariant c.self.view_is c.self.inside.seat.id c.args.p _ c.requires.lane c.requires.waiting (ap (λ (n : ℕ). n + 1) (c.cell-cell.ensures ∙ (λ k. cell (e.place k) (e.capacity k) (e.count k)))))
