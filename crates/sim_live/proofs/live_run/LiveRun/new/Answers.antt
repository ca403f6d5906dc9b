use Rattle.std.proofs.Common.{sym, subst, ◌∙◌}
use Rattle.sim_live.specs.LiveRuns.{IsLive}
use Rattle.sim_live.proofs.LiveRuns.{live_opened, run_with}
use Rattle.sim_live.proofs.live_run.LiveRun.new.Goals as goal

pub returns-clause-live : goal.returns-clause-live
returns-clause-live c =
    let x = c.in_ok-session.session in
    let made = c.in_ok-session.ensures in
    subst (λ l. IsLive c.args.scenario.now (run_with x l)) (sym c.new-journal.ensures)
    (live_opened c.args.scenario.now x made.code made.setup (made.seed ∙ c.seed.ensures) made.units made.none_refused made.opening made.settled)
