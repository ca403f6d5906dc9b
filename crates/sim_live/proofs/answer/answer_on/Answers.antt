use Rattle.std.proofs.Common.{refl}
use Rattle.sim_language.specs.Reads.{reads}
use Rattle.sim_live.proofs.AnsweredTexts.{answers_none}
use Rattle.sim_live.proofs.answer.answer_on.Goals as goal

pub returns-in-Err-Memory-clause-answers : goal.returns-in-Err-Memory-clause-answers
returns-in-Err-Memory-clause-answers g c = answers_none (reads c.args.text.now) c.args.limit _ _ refl
