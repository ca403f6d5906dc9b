use Rattle.sim_accounts.proofs.StateChanges.{body_trade}
use Rattle.sim_accounts.proofs.Quiet.{made_trade, over_trade}
use Rattle.sim_accounts.proofs.naming.living_processes.Goals as goal

pub returns-clause-made : goal.returns-clause-made
returns-clause-made g c = made_trade

pub returns-clause-ended : goal.returns-clause-ended
returns-clause-ended g c = over_trade

pub returns-clause-body : goal.returns-clause-body
returns-clause-body g c = body_trade
