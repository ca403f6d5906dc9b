use Rattle.std.proofs.Common.{◌≡◌, ◌≤◌, ◌*◌, ◌^◌, length, map, take}
use Rattle.sim_inbox.specs.Lists.{untaken}
use Rattle.sim_lanes.specs.Ends.{taken_of, posted_of}
use Rattle.sim_lanes.proofs.taker.LaneTaker.left_count.Given as goal

abbrev pub invariant-loop-p : goal.invariant-loop-p
invariant-loop-p l = record {
  count : l.count ≡ length (untaken (taken_of l.self) 0 (take l.p (map posted_of l.posters)));
  few : l.count ≤ l.p * 2 ^ 32;
}
