use Rattle.sim_host.specs.HostedTogether.{CanPoll}
use Rattle.sim_host.proofs.tests.poll_all.Given as goal

abbrev pub invariant-loop-polls : goal.invariant-loop-polls
invariant-loop-polls l = CanPoll l.all
