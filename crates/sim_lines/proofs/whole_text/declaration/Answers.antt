use Rattle.std.proofs.Common.{◌∙◌, sym}
use Rattle.sim_language.specs.Forms.{after_first}
use Rattle.sim_lines.proofs.NamesSoFar.{no_declaration}
use Rattle.sim_lines.proofs.whole_text.declaration.Goals as goal

pub returns-in_err-sort : goal.returns-in_err-sort
returns-in_err-sort c =
    rw c.from_residual-in_err-sort.ensures
    (no_declaration c.args.line.now c.in_ok-first.field-0.now (after_first c.args.line.now) c.in_ok-first.ensures (sym c.in_err-sort.was ∙ c.sort_begun.ensures))
