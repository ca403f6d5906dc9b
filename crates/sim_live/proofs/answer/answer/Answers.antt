use Rattle.sim_language.specs.Reads.{reads}
use Rattle.sim_live.proofs.AnsweredTexts.{answers_cut, answers_flushed}
use Rattle.sim_live.proofs.answer.answer.Goals as goal

pub returns-in_err-flush-clause-answers : goal.returns-in_err-flush-clause-answers
returns-in_err-flush-clause-answers g c =
    answers_cut (reads c.args.text.now) c.args.limit _ _ _ _ {V = Unit {0}} _ c.from_residual-in_err-flush.result c.from_residual-in_err-flush.ensures.1
    c.in_ok-status.ensures.answers c.in_err-flush.ensures.bytes c.in_err-flush.ensures.cause

pub returns-clause-answers : goal.returns-clause-answers
returns-clause-answers g c =
    answers_flushed (reads c.args.text.now) c.args.limit _ _ _ _ c.in_ok-status.ensures.answers c.in_ok-flush.ensures.bytes c.in_ok-flush.ensures.cause.kept
