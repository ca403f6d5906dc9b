-- A calendar that is shown: the one in which all events that are no longer kept are blank.
use Rattle.std.specs.Prelude.{◌≡◌, ℕ, ◌+◌, List, [], ◌∷◌, ◌++◌, Option, Some, None, map}
use Rattle.sim_types.specs.declared.event.EventId.{EventId}
use Rattle.sim_machine.specs.State.{EventOf, Registration, Calendar}
use Rattle.sim_machine.specs.Events.{event_at, callbacks_of}
use Rattle.sim_happen_model.specs.TableOf.{Kept, kept_or_new}
use Rattle.sim_happen_model.specs.HappenOf.{HappenOf}

-- the event, or a blank one
abbrev pub event_or_blank : Option Kept → EventOf
event_or_blank k = (kept_or_new k).event

-- what is registered at these events, the first of which has this number
abbrev pub registered_from : ℕ → List (Option Kept) → List Registration
registered_from n [] = []
registered_from n (None ∷ es) = registered_from (n + 1) es
registered_from n (Some k ∷ es) =
    map (λ x. record { event = record { 0 = n }; callback = x }) k.callbacks ++ registered_from (n + 1) es

-- what is kept, as a calendar of the machine
abbrev pub seen : HappenOf → Calendar
seen h = record {
  time = h.time;
  scheduled = h.scheduled;
  agenda = h.agenda;
  events = map event_or_blank h.events;
  registered = registered_from 0 h.events;
}

-- two calendars say the same of an event
pub record SayAlike (e : EventId) (c d : Calendar) : Type 0 where
  pub event : event_at c e ≡ event_at d e
  pub callbacks : callbacks_of e c ≡ callbacks_of e d
