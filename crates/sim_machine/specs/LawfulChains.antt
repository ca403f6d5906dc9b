-- Lawful chains: outcomes are passed on only between events of the right kinds, so that no request, process or
-- condition gets its outcome from outside.
use Rattle.std.specs.Prelude.{Bool, ◌&&◌, true, false, IsTrue}
use Rattle.std.specs.List.{AllPass}
use Rattle.sim_types.specs.declared.event.EventId.{EventId}
use Rattle.sim_types.specs.declared.event.EventKind.{EventKind}
use Rattle.sim_types.specs.declared.event.Callback.{Callback}
use Rattle.sim_types.specs.declared.event.EventKind.TheVariants as kind
use Rattle.sim_types.specs.declared.event.Callback.TheVariants as callback
use Rattle.sim_machine.specs.State.{Calendar, Control}
use Rattle.sim_machine.specs.Standing.{was_made, kind_at, left_of, is_event_of}

-- whether events of this kind may pass their outcomes on
abbrev pub is_trigger_kind : EventKind → Bool
is_trigger_kind kind.Plain = true
is_trigger_kind kind.Timeout = true
is_trigger_kind kind.Cond = true
is_trigger_kind kind.Process = true
is_trigger_kind _ = false

-- whether events of this kind may get an outcome so; a timeout has one already and keeps it
abbrev pub is_triggered_kind : EventKind → Bool
is_triggered_kind kind.Plain = true
is_triggered_kind kind.Timeout = true
is_triggered_kind _ = false

-- whether a callback of e, if it passes an outcome on, does so from an event of the first kinds to one of the second
abbrev pub chains_well : Calendar → EventId → Callback → Bool
chains_well c e (callback.Trigger y) = is_trigger_kind (kind_at c e) && was_made c y && is_triggered_kind (kind_at c y)
chains_well c e _ = true

-- outcomes are passed on only between events of the right kinds
pub record LawfulChains (c : Calendar) (control : Control) : Type 0 where
  pub registered : AllPass (λ r. chains_well c r.event r.callback) c.registered
  pub calling : (e : EventId) → IsTrue (is_event_of control e) → AllPass (chains_well c e) (left_of control)
