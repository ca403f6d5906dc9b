-- Lawful stops: a run is stopped only by the event that is to stop it.
use Rattle.std.specs.Prelude.{Bool, ◌||◌, not, true, false, IsTrue}
use Rattle.std.specs.List.{AllPass}
use Rattle.sim_types.specs.declared.event.EventId.{EventId}
use Rattle.sim_types.specs.declared.event.EventKind.{EventKind}
use Rattle.sim_types.specs.declared.event.EventKind.TheVariants as kind
use Rattle.sim_types.specs.declared.event.Callback.{Callback}
use Rattle.sim_types.specs.declared.event.Callback.TheVariants as callback
use Rattle.sim_types.specs.declared.setup.Until.{Until}
use Rattle.sim_types.specs.declared.setup.Until.TheVariants as until
use Rattle.sim_machine.specs.State.{Calendar, Control}
use Rattle.sim_machine.specs.Events.{is_same}
use Rattle.sim_machine.specs.Standing.{kind_at, left_of, is_event_of}

-- whether the callback stops the run
abbrev pub is_stop : Callback → Bool
is_stop callback.Stop = true
is_stop _ = false

-- the kind of the event that stops a run at a time
abbrev pub is_stop_kind : EventKind → Bool
is_stop_kind kind.Stop = true
is_stop_kind _ = false

-- whether the run is to stop at this event
abbrev pub is_until : Until → EventId → Bool
is_until (until.Event n) e = is_same n e
is_until _ e = false

-- whether this event may stop the run
abbrev pub may_stop : Until → Calendar → EventId → Bool
may_stop u c e = is_stop_kind (kind_at c e) || is_until u e

-- whether a callback of e, if it stops the run, is one of an event that may
abbrev pub stops_well : Until → Calendar → EventId → Callback → Bool
stops_well u c e x = not (is_stop x) || may_stop u c e

-- what stops a run is registered, or left to call, only at an event that may stop it
pub record LawfulStops (u : Until) (c : Calendar) (control : Control) : Type 0 where
  pub registered : AllPass (λ r. stops_well u c r.event r.callback) c.registered
  pub calling : (e : EventId) → IsTrue (is_event_of control e) → AllPass (stops_well u c e) (left_of control)
