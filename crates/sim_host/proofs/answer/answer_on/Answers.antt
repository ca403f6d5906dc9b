use Rattle.std.proofs.Common.{refl}
use Rattle.sim_outside.proofs.Written.{none_written}
use Rattle.sim_writing.specs.RunFaults.{is_write}
use Rattle.sim_host.proofs.answer.answer_on.Goals as goal

pub returns-in-Err-Memory-clause-writes : goal.returns-in-Err-Memory-clause-writes
returns-in-Err-Memory-clause-writes g c = none_written is_write _ _ _ refl
