use Rattle.std.proofs.Common.{Bor, ap, subst}
use Rattle.sim_types.specs.Scenarios.{ScenarioOf}
use Rattle.sim_host.specs.HostedTogether.{MayGive}
use Rattle.sim_host.proofs.Stepping.{may_give_before}
use Rattle.sim_host.proofs.all.HostAllFuture.poll.Goals as goal

pub returns-in-Pending-clause-same : goal.returns-in-Pending-clause-same
returns-in-Pending-clause-same c =
    let s = c.args.self.now.scenario.now in
    let same = ap (λ (b : Bor ScenarioOf). b.now) c.step_all.ensures.same_scenario in
    rw c.yield_now.ensures.pending
    (λ told h. may_give_before s c.args.self.now.runs.now c.step_all.new.self.runs.now c.in-Pending.ensures.stepped told
    (subst (λ n. MayGive n c.step_all.new.self.runs.now told) same h))
