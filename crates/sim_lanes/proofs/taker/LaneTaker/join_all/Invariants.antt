use Rattle.std.proofs.Common.{length}
use Rattle.sim_lanes.proofs.Joining.{JoinedFrom}
use Rattle.sim_lanes.proofs.taker.LaneTaker.join_all.Given as goal

abbrev pub invariant-loop-poster : goal.invariant-loop-poster
invariant-loop-poster l = JoinedFrom l.fn.self l.self l.posters.items l.fn.posters.items

abbrev pub decreases-loop-poster : goal.decreases-loop-poster
decreases-loop-poster l = length l.posters.items
