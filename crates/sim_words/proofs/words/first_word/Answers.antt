use Rattle.std.proofs.Common.{◌-◌, ◌∙◌, refl, sym, take, drop, length}
use Rattle.sim_words.proofs.FirstWords.{no_word, word_to_blank, word_to_end}
use Rattle.sim_words.proofs.words.first_word.Goals as goal

pub returns-in_err-start : goal.returns-in_err-start
returns-in_err-start c = rw c.from_residual.ensures (no_word c.args.line.now (sym c.first_of_word.ensures ∙ c.in_err-start.was))

pub returns-in-Some : goal.returns-in-Some
returns-in-Some c =
    word_to_blank c.args.line.now (take (length c.args.line.now - c.in_ok-start.start) (drop c.in_ok-start.start c.args.line.now)) c.in_ok-start.start c.in-Some.end
    (sym c.first_of_word.ensures ∙ c.in_ok-start.was) refl (sym c.in-Some.ensures)

pub returns-in-None : goal.returns-in-None
returns-in-None c =
    word_to_end c.args.line.now (take (length c.args.line.now - c.in_ok-start.start) (drop c.in_ok-start.start c.args.line.now)) c.in_ok-start.start
    (sym c.first_of_word.ensures ∙ c.in_ok-start.was) refl (sym c.in-None.ensures)
