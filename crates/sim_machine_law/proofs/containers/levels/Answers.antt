use Rattle.sim_machine_law.proofs.Stocks.ServedFronts.{level_of_amounts}
use Rattle.sim_machine_law.proofs.containers.levels.Goals as goal

pub returns : goal.returns
returns c = record { amounts = level_of_amounts }
