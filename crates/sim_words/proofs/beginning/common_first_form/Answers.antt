use Rattle.std.proofs.Common.{Bor, ◌∙◌, map}
use Rattle.sim_language.specs.declared.form.Form.{Form}
use Rattle.sim_language.specs.Lines.{Word}
use Rattle.sim_words.proofs.ByLetter.{common_form}
use Rattle.sim_words.proofs.beginning.common_first_form.Goals as goal

pub returns : goal.returns
returns c =
    c.form_at.ensures
    ∙ common_form c.args.word.now c.in_ok-letter.field-0 (map (λ (row : Bor Word × Form). (row.0.now, row.1)) c.rows_at.result.now)
    c.in_ok-letter.ensures.letter c.rows_at.ensures
