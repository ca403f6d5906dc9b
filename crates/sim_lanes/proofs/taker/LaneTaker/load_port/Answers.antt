use Rattle.std.proofs.Common.{◌∙◌}
use Rattle.sim_lanes.specs.Places.{cell}
use Rattle.sim_lanes.proofs.Taking.{may_load_port}
use Rattle.sim_lanes.proofs.taker.LaneTaker.load_port.Goals as goal

pub load-requires : goal.load-requires
load-requires c =
    let e = c.end.ensures in
    rw c.deref.ensures (may_load_port c.self.invariant c.self.view_is c.self.inside.seat.id c.args.p _ c.requires.lane c.requires.waiting (c.cell-cell.ensures ∙ (λ k. cell (e.place k) (e.capacity k) (e.count k))))
