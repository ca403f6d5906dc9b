use Rattle.sim_watch.proofs.Changing.{ChangesSo}
use Rattle.sim_watch.proofs.runs.change_each.Given as goal

-- the resources at the places so far are changed
abbrev pub invariant-loop-res : goal.invariant-loop-res
invariant-loop-res l = ChangesSo l.kernel l.places l.now l.fn.watched l.res-index l.watched
