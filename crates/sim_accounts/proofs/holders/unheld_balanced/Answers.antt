use Rattle.sim_accounts.proofs.GivenBack.{unheld_balanced, owed_kept, owed_own}
use Rattle.sim_accounts.proofs.holders.unheld_balanced.Goals as goal

pub returns-clause-balanced : goal.returns-clause-balanced
returns-clause-balanced c = unheld_balanced

pub returns-clause-kept : goal.returns-clause-kept
returns-clause-kept c = owed_kept

pub returns-clause-own : goal.returns-clause-own
returns-clause-own c = owed_own
