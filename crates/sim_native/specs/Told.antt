-- What a process is told.
use Rattle.std.specs.Prelude.{ℤ, pos, Option, Some, None}
use Rattle.sim_types.specs.Throws.{error}
use Rattle.sim_types.specs.declared.event.EventId.{EventId}
use Rattle.sim_types.specs.declared.event.Signal.{Signal}
use Rattle.sim_types.specs.declared.event.Signal.TheVariants as signal
use Rattle.sim_types.specs.declared.event.Throw.{Throw}

-- what is thrown at a process that is told this, if anything is
abbrev pub thrown_by : Signal → Option Throw
thrown_by (signal.Thrown what) = Some what
thrown_by (signal.Raised n) = Some (record { kind = error; value = pos n })
thrown_by told = None

-- the value that it was told last
abbrev pub value_by : Signal → ℤ → ℤ
value_by (signal.Value v) val = v
value_by told val = val

-- the number that it is told, or 0
abbrev pub number_by : Signal → ℤ
number_by (signal.Number n) = n
number_by told = pos 0

-- the event that it is told of, or event 0
abbrev pub event_by : Signal → EventId
event_by (signal.Made e) = e
event_by told = record { 0 = 0 }
