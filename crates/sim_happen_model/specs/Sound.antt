-- How time, agenda and table fit together.
use Rattle.std.specs.Prelude.{◌≡◌, ◌≢◌, ℕ, ◌+◌, ◌-◌, ◌<◌, ◌≤◌, ◌^◌, zero, suc, min, ℤ, pos, ◌≤ℤ◌, Bool, true, false, ◌&&◌, not, is_some, is_none, List, [], length, Option, Some, None, All, AllPairs}
use Rattle.std.specs.List.{sum_by}
use Rattle.sim_types.specs.declared.event.EventId.{EventId}
use Rattle.sim_types.specs.declared.event.Entry.{Entry}
use Rattle.sim_machine.specs.Events.{is_same}
use Rattle.sim_machine.specs.Conditions.{most_weight}
use Rattle.sim_machine.specs.Standing.{one_if}
use Rattle.sim_happen_model.specs.Agendas.{AgendaOf}
use Rattle.sim_happen_model.specs.TableOf.{Kept, TableOf, Spare, kept_at, kept_or_new, kept_condition}
use Rattle.sim_happen_model.specs.HappenOf.{HappenOf}
use Rattle.sim_happen_model.specs.Holders.{AreOwed}

-- whether an event is triggered, and is yet to be popped
abbrev pub awaits : Kept → Bool
awaits k = is_some k.event.outcome && not k.event.processed

abbrev pub kept_one : Option Kept → ℕ
kept_one k = one_if (is_some k)

abbrev pub awaiting_one : Option Kept → ℕ
awaiting_one k = one_if (awaits (kept_or_new k))

abbrev pub pending_one : Option Kept → ℕ
pending_one None = 0
pending_one (Some k) = one_if (is_none k.event.outcome)

-- 1 for an entry of e
abbrev pub entry_one : EventId → Entry → ℕ
entry_one e x = one_if (is_same x.event e)

-- for how many more events the agenda has places: each event that is kept and not in the agenda has one
abbrev pub places_for : AgendaOf → List (Option Kept) → ℕ
places_for agenda events = length agenda.entries + agenda.spare - sum_by kept_one events

-- for how much more there is room
abbrev pub spare_in : AgendaOf → TableOf → Spare
spare_in agenda table =
    record table.spare { events = min table.spare.events (places_for agenda table.events) }

-- what contracts see of a time, a number of schedulings, an agenda and a table
abbrev pub happen_of : ℤ → ℕ → AgendaOf → TableOf → HappenOf
happen_of time scheduled agenda table = record {
  time = time;
  scheduled = scheduled;
  agenda = agenda.entries;
  events = table.events;
  left = table.left;
  spare = spare_in agenda table;
}

-- a time of a run
pub record IsTime (time : ℤ) : Type 0 where
  pub low : pos 0 ≤ℤ time
  pub high : time ≤ℤ pos (2 ^ 62)

-- what e weighs, down to this depth
abbrev pub weight_in : ℕ → List (Option Kept) → EventId → ℕ
weight_in zero events e = 1
weight_in (suc depth) events e = 1 + sum_by (weight_in depth events) (kept_condition events e).members

-- no event weighs too much
pub record AreNarrow (events : List (Option Kept)) : Type 0 where
  pub each : (e : EventId) → weight_in (most_weight + 1) events e ≤ most_weight

-- only a pending event is cancelled, and none that is pending is processed
pub record IsInOrder (k : Kept) : Type 0 where
  pub cancelled : k.event.cancelled ≡ true → k.event.outcome ≡ None
  pub pending : k.event.outcome ≡ None → k.event.processed ≡ false

pub record AreInOrder (events : List (Option Kept)) : Type 0 where
  pub each : (e : EventId) → IsInOrder (kept_at events e)

-- the agenda has one entry for each event that is triggered and yet to be popped, and no other
pub record AreScheduled (agenda : List Entry) (events : List (Option Kept)) : Type 0 where
  pub each : (e : EventId) → sum_by (entry_one e) agenda ≡ one_if (awaits (kept_at events e))
  pub all : length agenda ≡ sum_by awaiting_one events

-- the entries have times of a run, and numbers of their own that were given
pub record AreEntries (agenda : List Entry) (scheduled : ℕ) : Type 0 where
  pub times : All (λ x. IsTime x.key.time) agenda
  pub numbers : All (λ x. x.key.number < scheduled) agenda
  pub distinct : AllPairs (λ x y. x.key.number ≢ y.key.number) agenda

-- time, agenda and events fit together, and so many more entries find a place
pub record IsSound (h : HappenOf) (room : ℕ) : Type 0 where
  pub clock : IsTime h.time
  pub entries : AreEntries h.agenda h.scheduled
  pub awaiting : AreScheduled h.agenda h.events
  pub order : AreInOrder h.events
  -- each event is scheduled once at most
  pub once : h.scheduled + sum_by pending_one h.events ≤ length h.events
  pub few : length h.events ≤ 2 ^ 62
  pub places : sum_by kept_one h.events ≤ length h.agenda + room
  pub members : AreOwed [] h.events
  pub narrow : AreNarrow h.events
