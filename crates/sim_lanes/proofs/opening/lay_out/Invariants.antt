use Rattle.std.proofs.Common.{◌≤◌, ◌+◌, ◌*◌, ◌^◌}
use Rattle.sim_lanes.proofs.Laying.{EndsUpto}
use Rattle.sim_lanes.proofs.opening.lay_out.Given as goal

abbrev pub invariant-loop-p : goal.invariant-loop-p
invariant-loop-p l = record {
  laid : EndsUpto l.capacities l.ends.items l.p l.place;
  small : l.place ≤ 1 + l.p * (2 + 2 * 2 ^ 32);
}
