use Rattle.std.proofs.Common.{ap, sym, ◌∙◌, ℕ, List, Some}
use Rattle.sim_program.specs.Answers.{IsAnswer}
use Rattle.sim_rows.proofs.WholeAnswers.{whole_meant}
use Rattle.sim_rows.proofs.answer.answer_to.Goals as goal

pub returns : goal.returns
returns g c =
    record {
      meant = λ whole.
          whole_meant (IsAnswer c.args.words.now) _ _ _ _ _ _ c.new-source.ensures
          (ap (λ s. Some s.taken) c.in_ok-sink.ensures)
          (ap (λ (b : List ℕ). Some b) (sym (c.in_ok-bytes.ensures.items ∙ c.bytes.ensures)))
          (c.carry_out-status.ensures.headline whole);
    }
