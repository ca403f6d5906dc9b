use Rattle.std.proofs.Common.{◌∙◌, ap, sym, ◌||◌}
use Rattle.sim_language.specs.Lines.{is_among}
use Rattle.sim_language.specs.Names.{common_words}
use Rattle.sim_words.proofs.SameWords.{reserved_in_two}
use Rattle.sim_words.proofs.name.is_reserved.Goals as goal

pub returns-then-eq : goal.returns-then-eq
returns-then-eq c =
    let is = reserved_in_two c.args.version c.args.word.now c.as_slice.result.now c.in-Two.is c.as_slice.ensures in
    c.if-eq.true ∙ sym (ap (λ b. b || is_among c.args.word.now common_words) (sym c.eq.ensures ∙ c.if-eq.true)) ∙ is

pub returns-else-eq : goal.returns-else-eq
returns-else-eq c =
    let is = reserved_in_two c.args.version c.args.word.now c.as_slice.result.now c.in-Two.is c.as_slice.ensures in
    c.is_common-else-eq.ensures ∙ sym (ap (λ b. b || is_among c.args.word.now common_words) (sym c.eq.ensures ∙ c.if-eq.false)) ∙ is
