-- What a slot says of its event.
use Rattle.std.specs.Prelude.{Bool, not, ◌||◌, nat_lt, ℕ, ℤ, false, pos, Option, Some, None, if◌then◌else◌}
use Rattle.slab.specs.Slab.{Slab, get}
use Rattle.sim_types.specs.declared.event.EventKind.{EventKind}
use Rattle.sim_types.specs.declared.event.Outcome.{Outcome}
use Rattle.sim_types.specs.declared.event.Outcome.TheVariants as outcome
use Rattle.sim_machine.specs.State.{ConditionOf}
use Rattle.sim_callbacks.specs.declared.chain.Node.{Node}
use Rattle.sim_callbacks.specs.declared.chain.Chain.{Chain}
use Rattle.sim_events.specs.declared.slot.Stage.{Stage}
use Rattle.sim_events.specs.declared.slot.Stage.TheVariants as stage
use Rattle.sim_events.specs.declared.slot.Slot.{Slot}
use Rattle.sim_callbacks.specs.Chains.{callbacks_in}
use Rattle.sim_happen_model.specs.TableOf.{Kept}

abbrev pub outcome_by : Stage → ℤ → ℕ → Option Outcome
outcome_by stage.Pending value throw = None
outcome_by stage.Succeeded value throw = Some (outcome.Ok value)
outcome_by stage.Failed value throw = Some (outcome.Fail (record { kind = throw; value = value }))

-- the outcome of the event, if it has one
abbrev pub outcome_in : Slot → Option Outcome
outcome_in x = outcome_by x.stage x.value x.throw

-- the slot once its event has this outcome
abbrev pub slot_with_outcome : Outcome → Slot → Slot
slot_with_outcome (outcome.Ok value) x = record x { stage = stage.Succeeded; value = value }
slot_with_outcome (outcome.Fail t) x = record x { stage = stage.Failed; value = t.value; throw = t.kind }

-- the slot of an event that was just made, with these callbacks
abbrev pub new_slot : EventKind → Chain → Slot
new_slot kind callbacks = record {
  value = pos 0;
  holders = 0;
  callbacks = callbacks;
  part = 0;
  kind = kind;
  stage = stage.Pending;
  throw = 0;
  defused = false;
  processed = false;
  cancelled = false;
  is_condition = false;
}

-- whether the event of a slot is to be kept
abbrev pub is_slot_needed : Slot → Bool
is_slot_needed x = not (x.processed || x.cancelled) || nat_lt 0 x.holders

-- what the event has as a condition
abbrev pub condition_in : Slab ConditionOf → Slot → Option ConditionOf
condition_in parts x = if x.is_condition then get parts x.part else None

-- what contracts see of the event of a slot
abbrev pub kept_in : Slab Node → Slab ConditionOf → Slot → Kept
kept_in nodes parts x = record {
  event = record {
    kind = x.kind;
    outcome = outcome_in x;
    defused = x.defused;
    processed = x.processed;
    cancelled = x.cancelled;
    condition = condition_in parts x;
  };
  callbacks = callbacks_in nodes x.callbacks;
  holders = x.holders;
}
