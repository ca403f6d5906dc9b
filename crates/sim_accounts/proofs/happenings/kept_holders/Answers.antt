use Rattle.sim_accounts.proofs.KeepingHolders.{keeps_all, keeps_made, keeps_gone}
use Rattle.sim_accounts.proofs.happenings.kept_holders.Goals as goal

pub returns-clause-all : goal.returns-clause-all
returns-clause-all c = keeps_all

pub returns-clause-made : goal.returns-clause-made
returns-clause-made c = keeps_made

pub returns-clause-gone : goal.returns-clause-gone
returns-clause-gone c = keeps_gone
