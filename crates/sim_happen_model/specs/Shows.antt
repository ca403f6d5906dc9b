-- Which calendars of the machine a happening shows, and how it follows what the machine does to a calendar.
use Rattle.std.specs.Prelude.{◌≡◌, ℕ, ◌≤◌, List, [], Option, Some, length}
use Rattle.std.specs.List.Sorted.{IsPermutation}
use Rattle.sim_types.specs.declared.event.EventId.{EventId}
use Rattle.sim_types.specs.declared.event.Entry.{Entry}
use Rattle.sim_types.specs.declared.line.Line.{Line}
use Rattle.sim_machine.specs.State.{Calendar}
use Rattle.sim_machine.specs.Events.{event_at, callbacks_of}
use Rattle.sim_machine.specs.Agenda.{due, popped}
use Rattle.sim_machine.specs.Steps.{line_of}
use Rattle.sim_happen_model.specs.TableOf.{Kept, IsKept, kept_at}
use Rattle.sim_happen_model.specs.HappenOf.{HappenOf, held, as_before, one_more}

-- an event is kept as the calendar has it, with its callbacks in order
pub record IsShown (c : Calendar) (e : EventId) (k : Kept) : Type 0 where
  pub event : k.event ≡ event_at c e
  pub callbacks : k.callbacks ≡ callbacks_of e c

-- the calendar may be this: it has the time, the entries in any order and as many events, and says of each event that is
-- kept what is kept of it
pub record Shows (h : HappenOf) (c : Calendar) : Type 0 where
  pub time : h.time ≡ c.time
  pub scheduled : h.scheduled ≡ c.scheduled
  pub agenda : IsPermutation c.agenda h.agenda
  pub made : length h.events ≡ length c.events
  pub kept : (e : EventId) → IsKept h.events e → IsShown c e (kept_at h.events e)
  -- nothing is registered at an event that is yet to be made
  pub unmade : (e : EventId) → length c.events ≤ e.0 → callbacks_of e c ≡ []

-- whatever calendar it showed, it shows what the change makes of it; who is kept, and by how many, changes so; and the
-- callbacks that are left to call stay
pub record Turns (change : Calendar → Calendar) (holds : List (Option ℕ) → List (Option ℕ)) (old new : HappenOf) : Type 0 where
  pub each : (c : Calendar) → Shows old c → Shows new (change c)
  pub held : held new ≡ holds (held old)
  pub left : new.left ≡ old.left

-- the same where nobody holds more or fewer, so the same events are kept
abbrev pub Follows : (Calendar → Calendar) → HappenOf → HappenOf → Type 0
Follows change old new = Turns change as_before old new

-- the entry that is due is popped: its event is processed and has a holder more, its callbacks are those to be called,
-- and this is its line
pub record PopsEntry (x : Entry) (told : Line) (old new : HappenOf) : Type 0 where
  pub due : (c : Calendar) → Shows old c → due c.agenda ≡ Some x
  pub each : (c : Calendar) → Shows old c → Shows new (popped x c)
  pub calls : (c : Calendar) → Shows old c → new.left ≡ callbacks_of x.event c
  pub line : (c : Calendar) → Shows old c → told ≡ line_of x c
  pub held : held new ≡ one_more x.event (held old)
