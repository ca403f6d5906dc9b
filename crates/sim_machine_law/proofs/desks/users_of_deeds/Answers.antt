use Rattle.sim_machine.specs.State.{Preempted}
use Rattle.sim_machine.specs.Users.{users}
use Rattle.std.proofs.Common.{◌++◌, ◌∷◌, []}
use Rattle.sim_machine_law.proofs.Requests.GrantedSlots.{preempted_room, room_yes}
use Rattle.sim_machine_law.proofs.Ledger.UsersOfDeeds.{users_granted, users_elsewhere, users_released, users_left}
use Rattle.sim_machine_law.proofs.desks.users_of_deeds.Goals as goal

pub returns-clause-granted : goal.returns-clause-granted
returns-clause-granted c = users_granted

pub returns-clause-granted_elsewhere : goal.returns-clause-granted_elsewhere
returns-clause-granted_elsewhere c = users_elsewhere

pub returns-clause-released : goal.returns-clause-released
returns-clause-released c = users_released

pub returns-clause-preempted : goal.returns-clause-preempted
returns-clause-preempted c = users_left

pub returns-clause-room : goal.returns-clause-room
returns-clause-room c = λ r res u ledger last fits. room_yes r (users res (ledger ++ Preempted res u.request ∷ [])) (preempted_room r res u ledger last fits)
