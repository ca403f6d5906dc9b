-- How far an event has come, and whether it failed and nobody defused it.
use Rattle.std.specs.Prelude.{Bool, ◌&&◌, not, Option, Some, None, if◌then◌else◌}
use Rattle.sim_types.specs.declared.event.Outcome.{Outcome}
use Rattle.sim_machine.specs.State.{EventOf}
use Rattle.sim_machine.specs.Events.{is_fail}
use Rattle.sim_events.specs.declared.table.EventState.{EventState}
use Rattle.sim_events.specs.declared.table.EventState.TheVariants as state

abbrev pub state_by : Option Outcome → EventState
state_by None = state.Pending
state_by (Some x) = state.Triggered

-- pending until it has an outcome, then triggered until it is processed
abbrev pub state_of : EventOf → EventState
state_of x = if x.processed then state.Processed else state_by x.outcome

-- the event failed and nobody defused it
abbrev pub is_unhandled : EventOf → Bool
is_unhandled x = is_fail x.outcome && not x.defused
