use Rattle.std.proofs.Common.{refl}
use Rattle.sim_host.proofs.HostedRuns.{opens}
use Rattle.sim_host.proofs.hosted.Hosted.new.Goals as goal

pub returns-clause-hosted : goal.returns-clause-hosted
returns-clause-hosted c =
    let x = c.in_ok-session.session in
    let made = c.in_ok-session.ensures in
    opens c.args.scenario.now (record { session = x; arrived = 0 }) made.code made.setup made.units made.none_refused made.opening made.settled refl
