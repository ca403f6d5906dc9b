use Rattle.std.proofs.Common.{[], refl, sym, subst, ap, ◌∙◌, append-nil}
use Rattle.sim_outside.proofs.Written.{told_err, none_written, as_failed, both_written, cut_behind}
use Rattle.sim_writing.specs.RunFaults.{is_write}
use Rattle.sim_engine.specs.Rounds.{StandsInRun}
use Rattle.sim_engine.proofs.Rounds.{at_opening}
use Rattle.sim_engine.proofs.RunTexts.{text_told}
use Rattle.sim_engine.proofs.runs.run.Goals as goal

pub returns-in_err-session-clause-writes : goal.returns-in_err-session-clause-writes
returns-in_err-session-clause-writes g c =
    told_err is_write _ _ _ c.from_residual.result _ c.from_residual.ensures.1 (λ why is. none_written is_write _ why _ (ap is_write is))

pub make_units-made-requires-clause-stands : goal.make_units-made-requires-clause-stands
make_units-made-requires-clause-stands g c =
    let x = c.in_ok-session.session in
    let made = c.in_ok-session.ensures in
    subst (λ n. StandsInRun c.args.scenario.now n c.args.journal.now c.args.journal.now x) (sym made.seed)
    (at_opening c.args.scenario.now c.args.seed c.args.journal.now x made.code made.setup made.seed made.units made.none_refused made.opening)

pub returns-in_err-made-clause-writes : goal.returns-in_err-made-clause-writes
returns-in_err-made-clause-writes g c =
    let x = c.in_ok-session.session in
    let opened = c.in_ok-session.ensures in
    let text = text_told c.args.scenario.now c.args.seed c.args.journal.now c.args.limit x.parts.seed x.limit _ opened.seed opened.limit refl in
    told_err is_write _ _ _ c.from_residual-in_err-made.result _ c.from_residual-in_err-made.ensures.1
    (λ why is. as_failed is_write is_write _ _ _ why _ _ _ c.in_err-made.ensures.writes text (sym (ap is_write is)))

pub returns-in_err-write_end-clause-writes : goal.returns-in_err-write_end-clause-writes
returns-in_err-write_end-clause-writes g c =
    let x = c.in_ok-session.session in
    let opened = c.in_ok-session.ensures in
    let is = ap (λ r. r.summary) c.close-report.ensures.report ∙ c.in_ok-made.ensures.summary in
    let text = text_told c.args.scenario.now c.args.seed c.args.journal.now c.args.limit x.parts.seed x.limit c.close-report.result.summary opened.seed opened.limit is in
    told_err is_write _ _ _ c.from_residual-in_err-write_end.result _ c.from_residual-in_err-write_end.ensures.1
    (λ why said. as_failed is_write is_write _ _ _ why _ [] _ (cut_behind is_write is_write {V = Unit {0}} _ _ _ _ _ _ _ _ c.in_ok-made.ensures.writes c.in_err-write_end.ensures.writes text)
    (sym (append-nil _)) (sym (ap is_write said)))

pub returns-clause-writes : goal.returns-clause-writes
returns-clause-writes g c =
    let x = c.in_ok-session.session in
    let opened = c.in_ok-session.ensures in
    let is = ap (λ r. r.summary) c.close-report.ensures.report ∙ c.in_ok-made.ensures.summary in
    let text = text_told c.args.scenario.now c.args.seed c.args.journal.now c.args.limit x.parts.seed x.limit c.close-report.result.summary opened.seed opened.limit is in
    both_written is_write is_write _ _ _ _ _ _ _ _ _ c.in_ok-made.ensures.writes c.in_ok-write_end.ensures.writes text
