use Rattle.sim_machine_law.proofs.Requests.GrantedSlots.{takes_slot_of, room_where_free, free_where_room, no_slot_of}
use Rattle.sim_machine_law.proofs.desks.grants.Goals as goal

pub returns-clause-free : goal.returns-clause-free
returns-clause-free c = λ r key us. (room_where_free r key us, free_where_room r key us)

pub returns-clause-taken : goal.returns-clause-taken
returns-clause-taken c = takes_slot_of

pub returns-clause-no_room : goal.returns-clause-no_room
returns-clause-no_room c = λ r key us h. (no_slot_of r key us h).0

pub returns-clause-no_victim : goal.returns-clause-no_victim
returns-clause-no_victim c = λ r key us h. (no_slot_of r key us h).1
