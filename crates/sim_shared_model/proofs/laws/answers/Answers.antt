use Rattle.sim_shared_model.proofs.Attempting.{granted_told, preempted_told}
use Rattle.sim_shared_model.proofs.laws.answers.Goals as goal

pub returns-clause-granted : goal.returns-clause-granted
returns-clause-granted c = λ time d request h. granted_told time d request h

pub returns-clause-preempted : goal.returns-clause-preempted
returns-clause-preempted c = λ time d request victim process since h. preempted_told time d request victim process since h
