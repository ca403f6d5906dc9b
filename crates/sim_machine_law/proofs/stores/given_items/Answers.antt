use Rattle.sim_machine_law.proofs.Stocks.FoundItems.{first_put, first_least, first_in_range, none_in_store, none_in_priority_store, none_in_range}
use Rattle.sim_machine_law.proofs.stores.given_items.Goals as goal

pub returns-clause-first : goal.returns-clause-first
returns-clause-first c = first_put

pub returns-clause-first_least : goal.returns-clause-first_least
returns-clause-first_least c = λ least greatest. first_least

pub returns-clause-first_in_range : goal.returns-clause-first_in_range
returns-clause-first_in_range c = first_in_range

pub returns-clause-none : goal.returns-clause-none
returns-clause-none c = none_in_store

pub returns-clause-none_least : goal.returns-clause-none_least
returns-clause-none_least c = none_in_priority_store

pub returns-clause-none_in_range : goal.returns-clause-none_in_range
returns-clause-none_in_range c = none_in_range
