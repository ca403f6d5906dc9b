use Rattle.sim_accounts.proofs.Trading.{trades_then}
use Rattle.sim_accounts.proofs.Balancing.{trades_balanced}
use Rattle.sim_accounts.proofs.holders.traded_balanced.Goals as goal

pub returns-clause-balanced : goal.returns-clause-balanced
returns-clause-balanced c = trades_balanced

pub returns-clause-joined : goal.returns-clause-joined
returns-clause-joined c = trades_then
