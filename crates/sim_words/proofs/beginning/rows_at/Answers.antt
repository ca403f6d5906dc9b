use Rattle.std.proofs.Common.{Bor, ◌∙◌, refl, ap, map}
use Rattle.sim_language.specs.declared.form.Form.{Form}
use Rattle.sim_language.specs.Forms.{common_first_words}
use Rattle.sim_language.specs.Lines.{Word}
use Rattle.sim_words.specs.Letters.{rows_at}
use Rattle.sim_words.proofs.ByLetter.{row_is}
use Rattle.sim_words.proofs.beginning.rows_at.Goals as goal

pub returns : goal.returns
returns c =
    ap (map (λ (row : Bor Word × Form). (row.0.now, row.1))) c.row_of.ensures
    ∙ row_is (λ (row : Bor Word × Form). (row.0.now, row.1)) (λ place. rows_at place common_first_words) _ c.args.place c.requires refl
