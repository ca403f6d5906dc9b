use Rattle.std.proofs.Common.{sym, subst, ap, ◌∙◌, Ok}
use Rattle.sim_engine.specs.Sessions.{turn_of}
use Rattle.sim_live.specs.LiveRuns.{IsLive, WritesOn}
use Rattle.sim_live.proofs.LiveRuns.{run_with, state_at, turn_live, turn_written}
use Rattle.sim_live.proofs.WrittenOn.{on_err, on_ok}
use Rattle.sim_live.proofs.live_run.LiveRun.turn.Goals as goal

pub returns-in_err-_state-clause-writes : goal.returns-in_err-_state-clause-writes
returns-in_err-_state-clause-writes g c =
    let s = c.args.scenario.now in
    let old = c.self.inside.session in
    let journal = c.self.inside.journal in
    let new = c.turn.new.self in
    let made = c.turn.ensures in
    let live = subst (IsLive s) (sym c.self.view_is) c.requires.live in
    let idle = ap (λ x. turn_of x.session) c.self.view_is ∙ c.requires.idle in
    subst (λ x. WritesOn s x (run_with new journal) (g.K.Sink.tells c.args.out.now) (g.K.Sink.tells c.turn.new.out) c.from_residual.result) c.self.view_is
    (on_err s (run_with old journal) (run_with new journal) _ _ _ c.from_residual.result c.from_residual.ensures.1
    (turn_written s journal old new live made.goes_on idle made.never_fewer made.busy _ _ _
    (c.in_err-_state.ensures.writes (state_at s journal old) live.stands.at)))

pub returns-clause-live : goal.returns-clause-live
returns-clause-live g c =
    let s = c.args.scenario.now in
    let made = c.turn.ensures in
    let live = subst (IsLive s) (sym c.self.view_is) c.requires.live in
    let idle = ap (λ x. turn_of x.session) c.self.view_is ∙ c.requires.idle in
    turn_live s c.self.inside.journal c.self.inside.session c.turn.new.self live made.goes_on idle made.never_fewer made.busy
    made.none_refused made.within c.in_ok-_state.ensures.settled c.in_ok-_state.ensures.steps

pub returns-clause-writes : goal.returns-clause-writes
returns-clause-writes g c =
    let s = c.args.scenario.now in
    let old = c.self.inside.session in
    let journal = c.self.inside.journal in
    let new = c.turn.new.self in
    let made = c.turn.ensures in
    let live = subst (IsLive s) (sym c.self.view_is) c.requires.live in
    let idle = ap (λ x. turn_of x.session) c.self.view_is ∙ c.requires.idle in
    subst (λ x. WritesOn {T = Unit {0}} s x (run_with new journal) (g.K.Sink.tells c.args.out.now) (g.K.Sink.tells c.turn.new.out) (Ok tt)) c.self.view_is
    (on_ok s (run_with old journal) (run_with new journal) _ _ _ (tt {0})
    (turn_written s journal old new live made.goes_on idle made.never_fewer made.busy _ _ _
    (c.in_ok-_state.ensures.writes (state_at s journal old) live.stands.at)))
