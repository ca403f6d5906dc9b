-- How a kept event changes, and when it goes.
use Rattle.std.specs.Prelude.{ℕ, ◌+◌, ◌-◌, true, List, [], ◌∷◌, ◌++◌, length, slice_set, Option, Some, None, is_some, if◌then◌else◌}
use Rattle.sim_types.specs.declared.event.EventId.{EventId}
use Rattle.sim_types.specs.declared.event.Outcome.{Outcome}
use Rattle.sim_types.specs.declared.event.Callback.{Callback}
use Rattle.sim_machine.specs.State.{ConditionOf}
use Rattle.sim_machine.specs.Events.{without_first}
use Rattle.sim_machine.specs.Conditions.{condition_of}
use Rattle.sim_machine.specs.Standing.{one_if}
use Rattle.sim_machine.specs.Callbacks.{is_same_callback}
use Rattle.sim_happen_model.specs.TableOf.{Kept, Spare, kept_at, is_needed}

-- the event gets its outcome
abbrev pub with_outcome : Outcome → Kept → Kept
with_outcome x k = record k { event = record k.event { outcome = Some x } }

-- a failure of the event no longer ends the run
abbrev pub with_defused : Kept → Kept
with_defused k = record k { event = record k.event { defused = true } }

-- the event is processed, and its callbacks are no longer its own
abbrev pub with_processed : Kept → Kept
with_processed k = record k { event = record k.event { processed = true }; callbacks = [] }

-- the event was taken out of its queue
abbrev pub with_cancelled : Kept → Kept
with_cancelled k = record k { event = record k.event { cancelled = true } }

-- what the event has as a condition changes
abbrev pub on_condition : (ConditionOf → ConditionOf) → Kept → Kept
on_condition change k =
    record k { event = record k.event { condition = Some (change (condition_of k.event.condition)) } }

-- a callback more, behind the others
abbrev pub with_callback : Callback → Kept → Kept
with_callback c k = record k { callbacks = k.callbacks ++ c ∷ [] }

-- without the first of its callbacks that is this one
abbrev pub without_callback : Callback → Kept → Kept
without_callback c k = record k { callbacks = without_first (is_same_callback c) k.callbacks }

-- one holder more
abbrev pub with_holder : Kept → Kept
with_holder k = record k { holders = k.holders + 1 }

-- one holder fewer
abbrev pub without_holder : Kept → Kept
without_holder k = record k { holders = k.holders - 1 }

-- one event is changed, all others stay
abbrev pub change_kept : EventId → (Kept → Kept) → List (Option Kept) → List (Option Kept)
change_kept e change events = slice_set events e.0 (Some (change (kept_at events e)))

abbrev pub some_if_needed : Kept → Option Kept
some_if_needed k = if is_needed k then Some k else None

-- one event is changed, and goes where it is not to be kept then; all others stay
abbrev pub change_or_forget : EventId → (Kept → Kept) → List (Option Kept) → List (Option Kept)
change_or_forget e change events = slice_set events e.0 (some_if_needed (change (kept_at events e)))

-- how many callbacks go with an event, where it goes
abbrev pub callbacks_freed : Kept → ℕ
callbacks_freed k = if is_needed k then 0 else length k.callbacks

-- how many conditions go with an event, where it goes: one, if it is a condition
abbrev pub conditions_freed : Kept → ℕ
conditions_freed k = if is_needed k then 0 else one_if (is_some k.event.condition)

-- room for so many more
abbrev pub more_events : ℕ → Spare → Spare
more_events n s = record s { events = s.events + n }

abbrev pub more_callbacks : ℕ → Spare → Spare
more_callbacks n s = record s { callbacks = s.callbacks + n }

abbrev pub more_conditions : ℕ → Spare → Spare
more_conditions n s = record s { conditions = s.conditions + n }
