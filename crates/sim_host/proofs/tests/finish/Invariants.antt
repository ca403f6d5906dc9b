use Rattle.std.proofs.Common.{◌-◌}
use Rattle.sim_host.specs.Hosting.{IsHosted}
use Rattle.sim_host.proofs.tests.finish.Given as goal

abbrev pub invariant-loop-summary : goal.invariant-loop-summary
invariant-loop-summary l = IsHosted l.scenario l.run

-- a unit is made
abbrev pub decreases-loop-summary : goal.decreases-loop-summary
decreases-loop-summary l = l.run.session.limit - l.run.session.units
