-- Lawful interruptions: each strikes one process and does nothing else, and nothing waits for it.
use Rattle.std.specs.Prelude.{Bool, ◌==◌, ◌||◌, ◌&&◌, not, true, false, length, Some, None, IsTrue}
use Rattle.std.specs.List.{list_any, list_all, AllPass}
use Rattle.sim_types.specs.declared.event.EventId.{EventId}
use Rattle.sim_types.specs.declared.event.EventKind.{EventKind}
use Rattle.sim_types.specs.declared.event.Callback.{Callback}
use Rattle.sim_types.specs.declared.event.EventKind.TheVariants as kind
use Rattle.sim_types.specs.declared.event.Callback.TheVariants as callback
use Rattle.sim_machine.specs.State.{EventOf, Calendar, Control, State}
use Rattle.sim_machine.specs.Events.{is_fail}
use Rattle.sim_machine.specs.Standing.{kind_at, left_of, is_event_of, all_callbacks_of}

-- whether the callback is an interruption's
abbrev pub is_strike : Callback → Bool
is_strike (callback.Strike p) = true
is_strike _ = false

-- the kind of interruptions
abbrev pub is_interrupt_kind : EventKind → Bool
is_interrupt_kind kind.Interrupt = true
is_interrupt_kind _ = false

-- whether nobody may wait for events of this kind: interruptions and stops
abbrev pub is_unheard_kind : EventKind → Bool
is_unheard_kind kind.Interrupt = true
is_unheard_kind kind.Stop = true
is_unheard_kind _ = false

-- whether e is an interruption with one callback
abbrev pub strikes_alone : Calendar → Control → EventId → Bool
strikes_alone c control e = is_interrupt_kind (kind_at c e) && (length (all_callbacks_of c control e) == 1)

-- whether a callback of e, if it is an interruption's, is the one callback of an interruption
abbrev pub strikes_well : Calendar → Control → EventId → Callback → Bool
strikes_well c control e x = not (is_strike x) || strikes_alone c control e

-- the same of the callbacks that are left to call
abbrev pub left_strikes_well : Calendar → Control → EventId → Bool
left_strikes_well c control e = not (list_any is_strike (left_of control)) || strikes_alone c control e

-- whether an event, if it is an interruption, has failed, as it has from the start
abbrev pub is_failed_interruption : EventOf → Bool
is_failed_interruption x = not (is_interrupt_kind x.kind) || is_fail x.outcome

-- whether no member of a condition is an event that nobody may wait for
abbrev pub has_heard_members : Calendar → EventOf → Bool
has_heard_members c x = elim x.condition [ None ↦ true | Some y ↦ list_all (λ e. not (is_unheard_kind (kind_at c e))) y.members ]

-- an interruption strikes one process and does nothing else, and nothing waits for it
pub record LawfulInterruptions {B : Type 0} (s : State B) : Type 0 where
  pub registered : AllPass (λ r. strikes_well s.facilities.calendar s.control r.event r.callback) s.facilities.calendar.registered
  pub calling : (e : EventId) → IsTrue (is_event_of s.control e) → IsTrue (left_strikes_well s.facilities.calendar s.control e)
  pub failed : AllPass is_failed_interruption s.facilities.calendar.events
  pub targets : AllPass (λ x. not (is_unheard_kind (kind_at s.facilities.calendar x.target))) s.processes
  pub members : AllPass (has_heard_members s.facilities.calendar) s.facilities.calendar.events
