-- Which entry of the agenda is due, and what its pop does to the calendar.
use Rattle.std.specs.Prelude.{◌==◌, not, List, Option, true, filter}
use Rattle.sim_types.specs.declared.event.Entry.{Entry}
use Rattle.sim_machine.specs.Choices.{best}
use Rattle.sim_machine.specs.Keys.{comes_first}
use Rattle.sim_machine.specs.State.{Calendar}
use Rattle.sim_machine.specs.Events.{is_same, change_event}

-- the entry that comes before all others: by time, then urgency, then insertion (SimPy's Environment.step)
abbrev pub due : List Entry → Option Entry
due es = best (λ f e. comes_first f.key e.key) es

-- the agenda without the entry of this number, which no other has in a lawful state
abbrev pub without_entry : Entry → List Entry → List Entry
without_entry e es = filter (λ f. not (f.key.number == e.key.number)) es

-- the entry leaves the agenda, it is its time, and its event is processed; the event's registrations are done with,
-- since its callbacks are called from now on
abbrev pub popped : Entry → Calendar → Calendar
popped e c =
    change_event e.event (λ x. record x { processed = true }) (record c {
      time = e.key.time;
      agenda = without_entry e c.agenda;
      registered = filter (λ r. not (is_same r.event e.event)) c.registered;
    })
