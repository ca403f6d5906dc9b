use Rattle.std.proofs.Common.{◌<◌, ◌≤◌, ◌^◌, ap, ◌∙◌, arith, rules}
use Rattle.sim_language_law.proofs.Scenarios.PostsOfScenarios.{posts_of_scenario}
use Rattle.sim_live.specs.LiveRuns.{text_so_far}
use Rattle.sim_live.proofs.JournalTexts.{journal_entries}
use Rattle.sim_live.proofs.LiveEnds.{end_over, lines_written, nothing_written, runs_cut, runs_cut_at_end, runs_cut_at_journal, runs_none, runs_whole, text_begins}
use Rattle.sim_live.proofs.Replays.{can_be}
use Rattle.sim_live.proofs.caller.run_with_posters.Goals as goal

pub returns-in_err-live_run-clause-runs : goal.returns-in_err-live_run-clause-runs
returns-in_err-live_run-clause-runs g c = runs_none c.args.scenario.now c.args.limit _ c.from_residual.result c.from_residual.ensures.1

pub returns-in_err-lived-clause-runs : goal.returns-in_err-lived-clause-runs
returns-in_err-lived-clause-runs g c =
    let s = c.args.scenario.now in
    let x = c.live-lived.new.run in
    let made = c.live-lived.ensures in
    let within : x.session.units ≤ c.args.limit = omega (arith, made.within, made.limit, c.in_ok-live_run.ensures.limit) in
    runs_cut s c.args.limit _ _ c.from_residual-in_err-lived.result _ c.from_residual-in_err-lived.ensures.1 x.journal (text_so_far s x) _
    (c.in_err-lived.ensures.writes (g.K.Sink.tells c.args.out.now)
    (nothing_written s c.in_ok-live_run.live_run _ c.in_ok-live_run.ensures.journal c.in_ok-live_run.ensures.units))
    (text_begins s c.args.limit x.journal x.session.units within) made.fronts

pub returns-in_err-write_end-clause-runs : goal.returns-in_err-write_end-clause-runs
returns-in_err-write_end-clause-runs g c =
    let made = c.in_ok-lived.ensures in
    let opened = c.in_ok-live_run.ensures in
    let written = lines_written c.args.scenario.now c.args.limit c.in_ok-live_run.live_run c.live-lived.new.run _ _ _ _ opened.limit opened.journal opened.units
    made.writes made.live made.ended c.live-lived.ensures.limit c.live-lived.ensures.fronts c.close-journal.ensures.report in
    runs_cut_at_end c.args.scenario.now c.args.limit _ _ c.from_residual-in_err-write_end.result _ c.from_residual-in_err-write_end.ensures.1 _ _ _ _ written
    c.in_err-write_end.ensures.writes

pub write_journal-requires : goal.write_journal-requires
write_journal-requires g c =
    record { names = rw c.port_names.ensures.names (posts_of_scenario c.args.scenario.now c.port_names.ensures.well_formed).names }

pub returns-in_err-write_journal-clause-runs : goal.returns-in_err-write_journal-clause-runs
returns-in_err-write_journal-clause-runs g c =
    let made = c.in_ok-lived.ensures in
    let opened = c.in_ok-live_run.ensures in
    let written = lines_written c.args.scenario.now c.args.limit c.in_ok-live_run.live_run c.live-lived.new.run _ _ _ _ opened.limit opened.journal opened.units
    made.writes made.live made.ended c.live-lived.ensures.limit c.live-lived.ensures.fronts c.close-journal.ensures.report in
    let entries = journal_entries _ _ _ _ c.port_names.ensures.names (c.as_slice.ensures ∙ c.close-journal.ensures.journal) in
    runs_cut_at_journal c.args.scenario.now c.args.limit _ _ c.from_residual-in_err-write_journal.result _
    c.from_residual-in_err-write_journal.ensures.1 _ _ _ _ written
    _ _ _ entries c.in_ok-write_end.ensures.writes c.in_err-write_journal.ensures.writes

pub returns-clause-runs : goal.returns-clause-runs
returns-clause-runs g c =
    let s = c.args.scenario.now in
    let x = c.live-lived.new.run in
    let made = c.in_ok-lived.ensures in
    let opened = c.in_ok-live_run.ensures in
    let most = c.live-lived.ensures.limit ∙ opened.limit in
    let written = lines_written s c.args.limit c.in_ok-live_run.live_run x _ _ _ _ opened.limit opened.journal opened.units
    made.writes made.live made.ended c.live-lived.ensures.limit c.live-lived.ensures.fronts c.close-journal.ensures.report in
    let entries = journal_entries _ _ _ _ c.port_names.ensures.names (c.as_slice.ensures ∙ c.close-journal.ensures.journal) in
    let small : c.args.limit < 2 ^ 32 = search rules in
    let can = can_be s c.port_names.ensures.well_formed x made.live (omega (arith, most, small)) made.sections in
    let ends = ap (λ r. r.summary.end) c.close-journal.ensures.report ∙ end_over s x made.live made.ended c.args.limit most in
    runs_whole s c.args.limit _ _ _ _ _ x.journal (text_so_far s x) _ _ _ _ written made.sections can ends entries c.in_ok-write_end.ensures.writes
    c.in_ok-write_journal.ensures.writes
