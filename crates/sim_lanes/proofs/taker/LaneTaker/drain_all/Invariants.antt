use Rattle.std.proofs.Common.{◌≡◌}
use Rattle.sim_lanes.proofs.Draining.{DrainedAll}
use Rattle.sim_lanes.proofs.taker.LaneTaker.drain_all.Given as goal

abbrev pub invariant-loop-p : goal.invariant-loop-p
invariant-loop-p l = record {
  drained : DrainedAll l.fn.self l.self l.p l.fn.left.items l.left.items;
  capacity : l.left.cap ≡ l.fn.left.cap;
}
