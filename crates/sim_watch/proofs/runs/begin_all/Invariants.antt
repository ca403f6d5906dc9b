use Rattle.sim_watch.specs.Following.{run_from}
use Rattle.sim_watch.proofs.Openings.{AreBegun}
use Rattle.sim_watch.proofs.runs.begin_all.Given as goal

-- the resources so far are watched
abbrev pub invariant-loop-res : goal.invariant-loop-res
invariant-loop-res l = AreBegun (run_from l.scenario l.walk) l.res l.watched.items
