use Rattle.sim_writing.proofs.Wanting.{wanting}
use Rattle.sim_desk.proofs.answer.write_verified.Goals as goal

pub returns-in_err-verdict-clause-writes : goal.returns-in_err-verdict-clause-writes
returns-in_err-verdict-clause-writes g c = wanting _ c.from_residual.result _ c.from_residual.ensures.1
