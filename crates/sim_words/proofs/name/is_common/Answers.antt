use Rattle.std.proofs.Common.{◌∙◌}
use Rattle.sim_words.proofs.ByLetter.{among_common}
use Rattle.sim_words.proofs.name.is_common.Goals as goal

pub returns-in-Some : goal.returns-in-Some
returns-in-Some c =
    c.contains.ensures.value ∙ among_common c.args.word.now c.in-Some.place c.words_at.result.now c.in-Some.ensures.letter c.words_at.ensures
