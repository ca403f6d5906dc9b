use Rattle.std.proofs.Common.{Bor, ◌∙◌, refl, ap, map}
use Rattle.sim_language.specs.Lines.{Word}
use Rattle.sim_language.specs.Names.{common_words}
use Rattle.sim_words.specs.Letters.{words_at}
use Rattle.sim_words.proofs.ByLetter.{row_is}
use Rattle.sim_words.proofs.name.words_at.Goals as goal

pub returns : goal.returns
returns c =
    ap (map (λ (word : Bor Word). word.now)) c.row_of.ensures
    ∙ row_is (λ (word : Bor Word). word.now) (λ place. words_at place common_words) _ c.args.place c.requires refl
