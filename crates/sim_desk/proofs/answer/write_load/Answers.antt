use Rattle.sim_writing.proofs.Wanting.{wanting}
use Rattle.sim_desk.proofs.answer.write_load.Goals as goal

pub returns-in_err-summary-clause-writes : goal.returns-in_err-summary-clause-writes
returns-in_err-summary-clause-writes g c = wanting _ c.from_residual.result _ c.from_residual.ensures.1
