use Rattle.sim_shared_model.proofs.WaitersInOrder.{in_order_joined, in_order_left}
use Rattle.sim_shared_model.proofs.laws.queues.Goals as goal

pub returns-clause-joined : goal.returns-clause-joined
returns-clause-joined c = λ kind w ws. in_order_joined kind w ws

pub returns-clause-left : goal.returns-clause-left
returns-clause-left c = λ kind stays ws. in_order_left kind stays ws
