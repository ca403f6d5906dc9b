use Rattle.sim_accounts.proofs.StateChanges.{waits_trade}
use Rattle.sim_accounts.proofs.Quiet.{waited_trade, went_on_trade, unresumed_trade}
use Rattle.sim_accounts.proofs.naming.waiting_processes.Goals as goal

pub returns-clause-waits : goal.returns-clause-waits
returns-clause-waits g c = waited_trade

pub returns-clause-target : goal.returns-clause-target
returns-clause-target g c = waits_trade

pub returns-clause-goes_on : goal.returns-clause-goes_on
returns-clause-goes_on g c = went_on_trade

pub returns-clause-stops : goal.returns-clause-stops
returns-clause-stops g c = λ n tell s p. unresumed_trade n tell p s
