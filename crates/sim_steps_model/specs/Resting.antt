-- Where a kernel stands.
use Rattle.std.specs.Prelude.{Bool, true, false, List, [], ◌∷◌, IsTrue}
use Rattle.sim_types.specs.declared.event.Entry.{Entry}
use Rattle.sim_machine.specs.State.{Control, Idle, Calling, Active, Over}
use Rattle.sim_steps_model.specs.PartsOf.{PartsOf}
use Rattle.sim_steps_model.specs.declared.mode.Rest.{Rest}
use Rattle.sim_steps_model.specs.declared.mode.Rest.TheVariants as rest

-- by what is being done, and whether the agenda is empty
abbrev pub rest_of : Control → List Entry → Rest
rest_of Idle [] = rest.Empty
rest_of Idle (x ∷ agenda) = rest.Idle
rest_of (Calling event left) agenda = rest.Busy
rest_of (Active event left process told) agenda = rest.Busy
rest_of (Over why event left) agenda = rest.Over why

-- whether a unit can be made in which nothing arrives
abbrev pub can_step : Rest → Bool
can_step rest.Busy = true
can_step rest.Idle = true
can_step _ = false

-- where a kernel stands
abbrev pub rest_in : {B Code : Type 0} → PartsOf B Code → Rest
rest_in parts = rest_of parts.control parts.shared.happen.agenda

-- a kernel in which a unit can be made
abbrev pub CanStep : {B Code : Type 0} → PartsOf B Code → Type 0
CanStep parts = IsTrue (can_step (rest_in parts))

-- whether nothing is being done, so that something may arrive
abbrev pub can_arrive : Rest → Bool
can_arrive rest.Idle = true
can_arrive rest.Empty = true
can_arrive _ = false

-- a kernel in which something may arrive
abbrev pub CanArrive : {B Code : Type 0} → PartsOf B Code → Type 0
CanArrive parts = IsTrue (can_arrive (rest_in parts))
