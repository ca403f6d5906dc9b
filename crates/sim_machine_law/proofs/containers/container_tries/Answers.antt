use Rattle.sim_machine_law.proofs.Stocks.ServedFronts.{front_of_puts, front_of_gets}
use Rattle.sim_machine_law.proofs.containers.container_tries.Goals as goal

pub returns-clause-puts : goal.returns-clause-puts
returns-clause-puts c = front_of_puts

pub returns-clause-gets : goal.returns-clause-gets
returns-clause-gets c = front_of_gets
