use Rattle.std.proofs.Common.{sym, ◌∙◌, rules, arith}
use Rattle.sim_live.proofs.LiveRuns.{came_at, came_falls, came_live, came_written, has_come, late_live, late_written, run_with}
use Rattle.sim_live.proofs.WrittenOn.{on_err, on_ok}
use Rattle.sim_live.proofs.live_run.LiveRun.arrive.Goals as goal

-- ---- the run was over

pub returns-then-not-takes_arrivals-clause-live : goal.returns-then-not-takes_arrivals-clause-live
returns-then-not-takes_arrivals-clause-live g c =
    let came = has_come c.args.scenario.now c.self.inside.journal c.self.inside.session _ c.args.taken _ _ _ c.self.view_is
    c.requires.live c.arrival-entry.ensures
    c.processed.ensures c.in_ok-push.ensures.ok in
    late_live came (search rules) (sym c.takes_arrivals.ensures ∙ c.if-not-takes_arrivals.true)

pub returns-then-not-takes_arrivals-clause-falls : goal.returns-then-not-takes_arrivals-clause-falls
returns-then-not-takes_arrivals-clause-falls g c =
    let came = has_come c.args.scenario.now c.self.inside.journal c.self.inside.session _ c.args.taken _ _ _ c.self.view_is
    c.requires.live c.arrival-entry.ensures
    c.processed.ensures c.in_ok-push.ensures.ok in
    came_falls came

pub returns-then-not-takes_arrivals-clause-writes : goal.returns-then-not-takes_arrivals-clause-writes
returns-then-not-takes_arrivals-clause-writes g c =
    let came = has_come c.args.scenario.now c.self.inside.journal c.self.inside.session _ c.args.taken _ _ _ c.self.view_is
    c.requires.live c.arrival-entry.ensures
    c.processed.ensures c.in_ok-push.ensures.ok in
    late_written came (g.K.Sink.tells c.args.out.now)

-- ---- it came in

pub returns-in_err-arrive-clause-falls : goal.returns-in_err-arrive-clause-falls
returns-in_err-arrive-clause-falls g c =
    let came = has_come c.args.scenario.now c.self.inside.journal c.self.inside.session _ c.args.taken _ _ _ c.self.view_is
    c.requires.live c.arrival-entry.ensures
    c.processed.ensures c.in_ok-push.ensures.ok in
    came_falls came

pub returns-in_err-arrive-clause-writes : goal.returns-in_err-arrive-clause-writes
returns-in_err-arrive-clause-writes g c =
    let came = has_come c.args.scenario.now c.self.inside.journal c.self.inside.session _ c.args.taken _ _ _ c.self.view_is
    c.requires.live c.arrival-entry.ensures
    c.processed.ensures c.in_ok-push.ensures.ok in
    let made = c.arrive.ensures in
    on_err c.args.scenario.now c.args.self.now (run_with c.arrive.new.self c.push.new.self) _ _ _ c.from_residual-in_err-arrive.result
    c.from_residual-in_err-arrive.ensures.1
    (came_written came c.arrive.new.self c.arrive.ensures.goes_on (sym c.takes_arrivals.ensures ∙ c.if-not-takes_arrivals.false) (search rules) _ _ _
    made.never_fewer
    made.at_most_one (c.in_err-arrive.ensures.writes _ (came_at came)))

pub returns-clause-live : goal.returns-clause-live
returns-clause-live g c =
    let came = has_come c.args.scenario.now c.self.inside.journal c.self.inside.session _ c.args.taken _ _ _ c.self.view_is
    c.requires.live c.arrival-entry.ensures
    c.processed.ensures c.in_ok-push.ensures.ok in
    let made = c.arrive.ensures in
    let done = c.in_ok-arrive.ensures in
    came_live came c.arrive.new.self c.arrive.ensures.goes_on (sym c.takes_arrivals.ensures ∙ c.if-not-takes_arrivals.false) (search rules) made.within
    (done.settled _ (came_at came)) done.units made.none_refused made.refused (λ u at below. done.arrives u at (omega (arith, done.units below)))

pub returns-clause-falls : goal.returns-clause-falls
returns-clause-falls g c =
    let came = has_come c.args.scenario.now c.self.inside.journal c.self.inside.session _ c.args.taken _ _ _ c.self.view_is
    c.requires.live c.arrival-entry.ensures
    c.processed.ensures c.in_ok-push.ensures.ok in
    came_falls came

pub returns-clause-writes : goal.returns-clause-writes
returns-clause-writes g c =
    let came = has_come c.args.scenario.now c.self.inside.journal c.self.inside.session _ c.args.taken _ _ _ c.self.view_is
    c.requires.live c.arrival-entry.ensures
    c.processed.ensures c.in_ok-push.ensures.ok in
    let made = c.arrive.ensures in
    on_ok c.args.scenario.now c.args.self.now (run_with c.arrive.new.self c.push.new.self) _ _ _ (tt {0})
    (came_written came c.arrive.new.self c.arrive.ensures.goes_on (sym c.takes_arrivals.ensures ∙ c.if-not-takes_arrivals.false) (search rules) _ _ _
    made.never_fewer
    made.at_most_one (c.in_ok-arrive.ensures.writes _ (came_at came)))
