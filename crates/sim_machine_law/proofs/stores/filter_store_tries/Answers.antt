use Rattle.sim_machine_law.proofs.Stocks.TriedStores.{gets_settled}
use Rattle.sim_machine_law.proofs.stores.filter_store_tries.Goals as goal

pub returns : goal.returns
returns c = record { none_left = λ rs res f kind. gets_settled rs res kind f }
