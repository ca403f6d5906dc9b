use Rattle.sim_accounts.proofs.StateChanges.{popped_trade, registered_trade}
use Rattle.sim_accounts.proofs.Quiet.{called_trade, run_trade, stopped_trade, settled_trade}
use Rattle.sim_accounts.proofs.naming.events_in_process.Goals as goal

pub returns-clause-popped : goal.returns-clause-popped
returns-clause-popped g c = popped_trade

pub returns-clause-registered : goal.returns-clause-registered
returns-clause-registered g c = registered_trade

pub returns-clause-called : goal.returns-clause-called
returns-clause-called g c = called_trade

pub returns-clause-runs : goal.returns-clause-runs
returns-clause-runs g c = λ n tell s e x left p told calling. run_trade n tell s e x left calling p told

pub returns-clause-stops : goal.returns-clause-stops
returns-clause-stops g c = λ n tell s e x left why calling. stopped_trade n tell s e x left calling why

pub returns-clause-settled : goal.returns-clause-settled
returns-clause-settled g c = settled_trade
