use Rattle.std.proofs.Common.{◌≡◌, map, take}
use Rattle.sim_watch.specs.Watched.{row_at}
use Rattle.sim_watch.proofs.runs.close_all.Given as goal

-- what is told of the resources so far
abbrev pub invariant-loop-one : goal.invariant-loop-one
invariant-loop-one l = l.rows ≡ map (row_at l.now) (take l.one-index l.watched)
