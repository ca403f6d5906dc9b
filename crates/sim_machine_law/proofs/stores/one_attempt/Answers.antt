use Rattle.sim_machine_law.proofs.Stocks.TriedStores.{one_put, one_get, none_put, none_got}
use Rattle.sim_machine_law.proofs.stores.one_attempt.Goals as goal

pub returns-clause-put : goal.returns-clause-put
returns-clause-put c = one_put

pub returns-clause-get : goal.returns-clause-get
returns-clause-get c = one_get

pub returns-clause-no_put : goal.returns-clause-no_put
returns-clause-no_put c = none_put

pub returns-clause-no_get : goal.returns-clause-no_get
returns-clause-no_get c = none_got
