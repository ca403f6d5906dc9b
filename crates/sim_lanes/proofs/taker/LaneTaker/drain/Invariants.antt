use Rattle.std.proofs.Common.{◌≡◌, ◌-◌, length}
use Rattle.sim_lanes.specs.Views.{lane}
use Rattle.sim_lanes.specs.Ends.{taken_of}
use Rattle.sim_lanes.specs.Closing.{whole_of}
use Rattle.sim_lanes.proofs.Draining.{Drained}
use Rattle.sim_lanes.proofs.taker.LaneTaker.drain.Given as goal

abbrev pub invariant-loop-taken : goal.invariant-loop-taken
invariant-loop-taken l = record {
  drained : Drained l.fn.self l.self l.p l.fn.left.items l.left.items;
  capacity : l.left.cap ≡ l.fn.left.cap;
}

abbrev pub decreases-loop-taken : goal.decreases-loop-taken
decreases-loop-taken l = length (whole_of (lane l.self.lanes l.p)) - length (taken_of l.self l.p)
