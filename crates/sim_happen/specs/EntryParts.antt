-- An entry of the agenda by its parts.
use Rattle.std.specs.Prelude.{ℕ, ℤ}
use Rattle.sim_types.specs.declared.event.EventId.{EventId}
use Rattle.sim_types.specs.declared.event.Entry.{Entry}

-- the entry of an event at a time, with its priority and its number in the order of scheduling
abbrev pub entry_of : ℤ × ℕ × ℕ × EventId → Entry
entry_of (time, priority, number, event) = record { key = record { time = time; priority = priority; number = number }; event = event }
