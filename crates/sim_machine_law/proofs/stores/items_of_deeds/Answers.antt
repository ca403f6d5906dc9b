use Rattle.sim_machine_law.proofs.Stocks.FoundItems.{items_deposited, items_elsewhere, items_taken}
use Rattle.sim_machine_law.proofs.stores.items_of_deeds.Goals as goal

pub returns-clause-deposited : goal.returns-clause-deposited
returns-clause-deposited c = items_deposited

pub returns-clause-deposited_elsewhere : goal.returns-clause-deposited_elsewhere
returns-clause-deposited_elsewhere c = items_elsewhere

pub returns-clause-taken : goal.returns-clause-taken
returns-clause-taken c = items_taken
