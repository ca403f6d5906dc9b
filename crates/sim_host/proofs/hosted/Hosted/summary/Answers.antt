use Rattle.std.proofs.Common.{refl, sym, ap, ◌∙◌}
use Rattle.sim_engine.specs.Sessions.{report_of}
use Rattle.sim_host.specs.Hosting.{HostedOf}
use Rattle.sim_host.proofs.HostedRuns.{end_is_over, summary_at_end, turn_not_over}
use Rattle.sim_host.proofs.hosted.Hosted.summary.Goals as goal

pub returns-in-End-clause-over : goal.returns-in-End-clause-over
returns-in-End-clause-over c =
    let over = end_is_over c.args.scenario.now c.args.self.now c.requires.hosted (sym c.in-End.ensures) in
    (λ _. over, λ _. refl)

pub returns-in-End-clause-summary : goal.returns-in-End-clause-summary
returns-in-End-clause-summary c =
    let same = ap (λ (x : HostedOf). (report_of x.session).summary) c.self.view_is in
    ap (λ r. r.summary) c.report-units.ensures.report ∙ (same ∙ summary_at_end c.args.scenario.now c.args.self.now c.requires.hosted (sym c.in-End.ensures))

pub returns-in-Turn-clause-over : goal.returns-in-Turn-clause-over
returns-in-Turn-clause-over c =
    (λ no. absurd (cc), λ over. absurd (turn_not_over c.args.scenario.now c.args.self.now c.requires.hosted (sym c.in-Turn.ensures) over))
