use Rattle.std.proofs.Common.{sym, subst}
use Rattle.sim_language.specs.Said.{IsSaid}
use Rattle.sim_lines.proofs.SaidByLines.{saying_is_said}
use Rattle.sim_lines.proofs.line.TextLine.read.Goals as goal

pub invariant_of-self-2 : goal.invariant_of-self-2
invariant_of-self-2 c =
    subst IsSaid (sym c.in_ok-self-inside.ensures)
    (saying_is_said c.args.setting.now c.cut-cut.result.now c.new-self-inside.result)
