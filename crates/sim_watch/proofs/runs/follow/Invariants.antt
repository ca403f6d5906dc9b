use Rattle.std.proofs.Common.{◌≡◌, ◌≤◌, ◌-◌}
use Rattle.sim_steps_model.specs.PartsOf.{IsOpenedAs}
use Rattle.sim_watch.specs.Following.{Follows, run_from}
use Rattle.sim_watch.proofs.runs.follow.Given as goal

-- the walk stands in the run, and all resources are watched up to there
abbrev pub invariant-loop-units : goal.invariant-loop-units
invariant-loop-units l =
    record {
      follows : Follows (run_from l.fn.scenario l.fn.walk) l.walk l.watched;
      opened : IsOpenedAs l.fn.walk.kernel.parts l.walk.kernel.parts;
      limit : l.walk.limit ≡ l.fn.walk.limit;
      within : l.walk.kernel.units ≤ l.walk.limit;
    }

-- a round makes a unit
abbrev pub decreases-loop-units : goal.decreases-loop-units
decreases-loop-units l = l.walk.limit - l.walk.kernel.units
