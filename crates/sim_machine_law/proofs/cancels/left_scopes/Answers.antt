use Rattle.sim_machine_law.proofs.Requests.ReleasedUsers.{waiters_left}
use Rattle.sim_machine_law.proofs.Requests.CancelledWaiters.{users_left, other_users_left, items_left, level_left, scheduled_left}
use Rattle.sim_machine_law.proofs.cancels.left_scopes.Goals as goal

pub returns-clause-waiters : goal.returns-clause-waiters
returns-clause-waiters c = waiters_left

pub returns-clause-users : goal.returns-clause-users
returns-clause-users c = users_left

pub returns-clause-other_users : goal.returns-clause-other_users
returns-clause-other_users c = λ n res request f. other_users_left res request f n

pub returns-clause-items : goal.returns-clause-items
returns-clause-items c = λ n res request f. items_left res request f n

pub returns-clause-levels : goal.returns-clause-levels
returns-clause-levels c = λ opening n res request f. level_left res request f opening n

pub returns-clause-one_event : goal.returns-clause-one_event
returns-clause-one_event c = scheduled_left
