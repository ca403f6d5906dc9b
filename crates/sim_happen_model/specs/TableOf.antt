-- What contracts see of the table of events.
use Rattle.std.specs.Prelude.{Bool, ◌||◌, not, nat_lt, ℕ, ◌+◌, List, [], slice_index_or, Option, Some, None, IsSome, IsTrue, is_some, count_by}
use Rattle.sim_types.specs.declared.event.EventId.{EventId}
use Rattle.sim_types.specs.declared.event.EventKind.TheVariants as kind
use Rattle.sim_types.specs.declared.event.Callback.{Callback}
use Rattle.sim_machine.specs.State.{EventOf, AllOrAny, ConditionOf}
use Rattle.sim_machine.specs.Events.{pending_event}
use Rattle.sim_machine.specs.Conditions.{condition_of}
use Rattle.sim_machine.specs.Runs.{event_zero}

-- an event that is kept: what it is, its callbacks in the order registered, and how many hold it
pub record Kept : Type 0 where
  pub event : EventOf
  pub callbacks : List Callback
  pub holders : ℕ

-- how many more events, callbacks and conditions fit without memory; a condition takes an event besides
pub record Spare : Type 0 where
  pub events : ℕ
  pub callbacks : ℕ
  pub conditions : ℕ

-- every event ever made, each at the place of its number, None where it is no longer kept; and the callbacks that are
-- left to call of the event that is being processed
pub record TableOf : Type 0 where
  pub events : List (Option Kept)
  pub left : List Callback
  pub spare : Spare

-- an event that was just made: nothing is registered, and nobody holds it
abbrev pub new_kept : EventOf → Kept
new_kept x = record { event = x; callbacks = []; holders = 0 }

-- event 0, which has a holder for good
abbrev pub first_kept : Kept
first_kept = record { event = event_zero; callbacks = []; holders = 1 }

-- what a condition has of whose members none was counted
abbrev pub uncounted : AllOrAny → List EventId → ConditionOf
uncounted sort members = record { sort = sort; members = members; count = 0; value = [] }

-- a condition that was just made
abbrev pub new_condition : AllOrAny → List EventId → EventOf
new_condition sort members = record (pending_event kind.Cond) { condition = Some (uncounted sort members) }

abbrev pub kept_or_new : Option Kept → Kept
kept_or_new None = new_kept (pending_event kind.Plain)
kept_or_new (Some k) = k

-- the event of this number; one that is not kept reads as one that was just made
abbrev pub kept_at : List (Option Kept) → EventId → Kept
kept_at events e = kept_or_new (slice_index_or events e.0 None)

-- what the event of this number has as a condition
abbrev pub kept_condition : List (Option Kept) → EventId → ConditionOf
kept_condition events e = condition_of (kept_at events e).event.condition

-- the event is kept
abbrev pub IsKept : List (Option Kept) → EventId → Type 0
IsKept events e = IsSome (slice_index_or events e.0 None)

-- whether an event is to be kept: it is neither processed nor cancelled, or has a holder
abbrev pub is_needed : Kept → Bool
is_needed k = not (k.event.processed || k.event.cancelled) || nat_lt 0 k.holders

-- whether an event that is processed has its outcome
abbrev pub is_settled : Kept → Bool
is_settled k = not k.event.processed || is_some k.event.outcome

-- the event is to be kept, and has its outcome where it is processed
abbrev pub IsInOrder : Kept → Type 0
IsInOrder k = IsTrue (is_needed k) × IsTrue (is_settled k)

-- each event that is kept is to be kept
abbrev pub AreNeeded : List (Option Kept) → Type 0
AreNeeded events = (e : EventId) → IsKept events e → IsTrue (is_needed (kept_at events e))

-- each event that is kept is in order
abbrev pub AreInOrder : List (Option Kept) → Type 0
AreInOrder events = (e : EventId) → IsKept events e → IsInOrder (kept_at events e)

-- how many events are kept
abbrev pub kept_count : List (Option Kept) → ℕ
kept_count events = count_by is_some events

-- how many events are kept or fit besides
abbrev pub kept_and_spare : TableOf → ℕ
kept_and_spare t = kept_count t.events + t.spare.events
