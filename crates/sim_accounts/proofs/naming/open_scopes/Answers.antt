use Rattle.sim_accounts.proofs.StateChanges.{opened_trade}
use Rattle.sim_accounts.proofs.Quiet.{left_trade}
use Rattle.sim_accounts.proofs.naming.open_scopes.Goals as goal

pub returns-clause-opened : goal.returns-clause-opened
returns-clause-opened g c = opened_trade

pub returns-clause-closed : goal.returns-clause-closed
returns-clause-closed g c = left_trade
