use Rattle.std.proofs.Common.{◌≤◌, ◌<◌, ℕ, length, get_or}
use Rattle.sim_host.specs.Hosting.{HostedOf, IsHosted}
use Rattle.sim_host.proofs.tests.poll_once.Given as goal

-- the runs that are left are hosted
abbrev pub invariant-loop-run : goal.invariant-loop-run
invariant-loop-run l = (k : ℕ) (d : HostedOf) → l.run-index ≤ k → k < length l.runs → IsHosted l.scenario (get_or l.runs k d)
