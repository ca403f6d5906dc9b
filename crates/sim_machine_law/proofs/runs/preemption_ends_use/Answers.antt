use Rattle.sim_machine_law.proofs.Ledger.LedgerSteps.{users_preempted}
use Rattle.sim_machine_law.proofs.runs.preemption_ends_use.Goals as goal

pub returns : goal.returns
returns c = record { ended = λ res u f. users_preempted res res u.request f.ledger }
