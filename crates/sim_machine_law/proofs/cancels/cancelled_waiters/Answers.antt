use Rattle.sim_machine_law.proofs.Requests.ReleasedUsers.{waiters_cancelled, ledger_cancelled}
use Rattle.sim_machine_law.proofs.Requests.CancelledWaiters.{agenda_cancelled, registered_cancelled, others_cancelled}
use Rattle.sim_machine_law.proofs.cancels.cancelled_waiters.Goals as goal

pub returns-clause-waiters : goal.returns-clause-waiters
returns-clause-waiters c = waiters_cancelled

pub returns-clause-ledger : goal.returns-clause-ledger
returns-clause-ledger c = ledger_cancelled

pub returns-clause-agenda : goal.returns-clause-agenda
returns-clause-agenda c = agenda_cancelled

pub returns-clause-registered : goal.returns-clause-registered
returns-clause-registered c = registered_cancelled

pub returns-clause-others : goal.returns-clause-others
returns-clause-others c = others_cancelled
