-- One unit: an arrival, or else a step. Units, which limits count, and arrivals are this project's own.
use Rattle.std.specs.Prelude.{Bool, ◌||◌, ◌&&◌, ℕ, ℤ, List, Option, true, false, [], ◌∷◌, slice_index_or, Some, None, is_none, if◌then◌else◌, ◌≡◌, nat_le, drop}
use Rattle.sim_types.specs.declared.line.Line.TheVariants as line
use Rattle.sim_types.specs.declared.setup.Arrival.{Arrival}
use Rattle.sim_machine.specs.State.{Control, Idle, State, Plan}
use Rattle.sim_machine.specs.Agenda.{due}
use Rattle.sim_machine.specs.Processes.{write_line, make_process}
use Rattle.sim_machine.specs.Effect.{calendar}
use Rattle.sim_machine.specs.Steps.{Turn, TurnFunction, IsStep, step_of}

-- a value comes in by a port: a process of the port's kind is made, with the value as its argument
abbrev pub arrive : {B : Type 0} → Plan B → ℕ → ℤ → State B → State B
arrive g port value s = write_line (line.Arrive s.processed value port) (make_process g (slice_index_or g.setup.ports port 0) (value ∷ []) s)

-- a run under way: the state, and the journal's entries that are left
pub record Course (B : Type 0) : Type 0 where
  pub state : State B
  pub left : List Arrival

-- whether nothing is being done
abbrev pub is_idle : Control → Bool
is_idle Idle = true
is_idle _ = false

-- the arrival that comes next, where it is due: the machine is idle, and so many events were processed or none is to come
abbrev pub due_arrival : {B : Type 0} → State B → List Arrival → Option Arrival
due_arrival s [] = None
due_arrival s (a ∷ later) = if is_idle s.control && (nat_le a.after s.processed || is_none (due (calendar s).agenda)) then Some a else None

-- the first arrival that is left comes in; this is a unit too
abbrev pub inject : {B : Type 0} → Plan B → Arrival → Course B → Course B
inject g a m = record { state = arrive g a.port a.value m.state; left = drop 1 m.left }

-- a unit, where this arrival is due or none
abbrev pub IsUnitAt : {B : Type 0} → Plan B → Turn B → Course B → Course B → Option Arrival → Type 0
IsUnitAt g turn m n (Some a) = n ≡ inject g a m
IsUnitAt g turn m n None = IsStep g turn m.state n.state × (n.left ≡ m.left)

-- n is one unit later than m: the arrival that is due comes in, or else there is a step
abbrev pub IsUnit : {B : Type 0} → Plan B → Turn B → Course B → Course B → Type 0
IsUnit g turn m n = IsUnitAt g turn m n (due_arrival m.state m.left)

-- the unit that comes next, where this arrival is due or none
abbrev pub unit_at : {B : Type 0} → Plan B → TurnFunction B → Course B → Option Arrival → Course B
unit_at g turn m (Some a) = inject g a m
unit_at g turn m None = record m { state = step_of g turn m.state }

-- the unit after this one
abbrev pub unit_of : {B : Type 0} → Plan B → TurnFunction B → Course B → Course B
unit_of g turn m = unit_at g turn m (due_arrival m.state m.left)
