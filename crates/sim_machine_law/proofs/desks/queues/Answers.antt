use Rattle.sim_machine_law.proofs.Requests.SortedQueues.{same_waiters, by_keys, equals_as_came, others_as_came}
use Rattle.sim_machine_law.proofs.desks.queues.Goals as goal

pub returns-clause-same_waiters : goal.returns-clause-same_waiters
returns-clause-same_waiters c = same_waiters

pub returns-clause-by_keys : goal.returns-clause-by_keys
returns-clause-by_keys c = by_keys

pub returns-clause-equals : goal.returns-clause-equals
returns-clause-equals c = equals_as_came

pub returns-clause-as_came : goal.returns-clause-as_came
returns-clause-as_came c = others_as_came
