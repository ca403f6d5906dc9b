use Rattle.sim_accounts.proofs.GivenBack.{held_kept}
use Rattle.sim_accounts.proofs.KeepingHolders.{held_stays}
use Rattle.sim_accounts.proofs.holders.held_events.Goals as goal

pub returns-clause-kept : goal.returns-clause-kept
returns-clause-kept c = held_kept

pub returns-clause-stays : goal.returns-clause-stays
returns-clause-stays c = held_stays
