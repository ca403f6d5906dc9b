use Rattle.std.proofs.Common.{◌∙◌, sym}
use Rattle.sim_writing.proofs.Unheard.{left_out}
use Rattle.sim_writing.proofs.lines.write_line.Goals as goal

pub returns-then-ignores_bytes-clause-writes : goal.returns-then-ignores_bytes-clause-writes
returns-then-ignores_bytes-clause-writes g c =
    left_out _ _ (c.ignores_bytes.ensures.untold (sym c.ignores_bytes.ensures.answer ∙ c.if-ignores_bytes.true))
