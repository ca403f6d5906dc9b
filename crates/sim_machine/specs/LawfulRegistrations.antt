-- Lawful registrations: they wait for events that are not processed.
use Rattle.std.specs.Prelude.{Bool, ◌||◌, ◌&&◌, not, is_some, IsTrue}
use Rattle.std.specs.List.{AllPass}
use Rattle.sim_types.specs.declared.event.EventId.{EventId}
use Rattle.sim_machine.specs.State.{EventOf, Registration, Calendar, Control}
use Rattle.sim_machine.specs.Events.{is_processed}
use Rattle.sim_machine.specs.Standing.{was_made, is_event_of}

-- the event of a registration was made and is not processed
abbrev pub awaits_processing : Calendar → Registration → Bool
awaits_processing c r = was_made c r.event && not (is_processed c r.event)

-- a processed event has an outcome
abbrev pub turned_out : EventOf → Bool
turned_out x = not x.processed || is_some x.outcome

-- registrations stand at events that are not yet processed, and what is processed has an outcome
pub record LawfulRegistrations (c : Calendar) (control : Control) : Type 0 where
  pub unprocessed : AllPass (awaits_processing c) c.registered
  pub processing : (e : EventId) → IsTrue (is_event_of control e) → IsTrue (is_processed c e)
  pub outcomes : AllPass turned_out c.events
