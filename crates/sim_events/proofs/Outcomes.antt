-- An event gets its outcome, and is settled; one that is settled and has none is pending.
use Rattle.std.proofs.lemmas.Bool.{false≢true}
use Rattle.std.proofs.Common.{◌≡◌, ℕ, List, Option, Some, refl, ◌↔◌, Bool, true, false, [], not, ◌||◌, None, is_some, IsTrue, cond}
use Rattle.slab.specs.Slab.{Slab, get, with_value}
use Rattle.sim_index.specs.IndexOf.{place_of_number}
use Rattle.sim_types.specs.declared.event.EventId.{EventId}
use Rattle.sim_types.specs.declared.event.EventKind.{EventKind}
use Rattle.sim_types.specs.declared.event.Outcome.{Outcome}
use Rattle.sim_types.specs.declared.event.Outcome.TheVariants as outcome
use Rattle.sim_callbacks.specs.declared.chain.Chain.{Chain}
use Rattle.sim_machine.specs.State.{ConditionOf, EventOf}
use Rattle.sim_machine.specs.Events.{pending_event}
use Rattle.sim_events.specs.declared.slot.Slot.{Slot}
use Rattle.sim_events.specs.declared.store.Store.{Store}
use Rattle.sim_events.specs.Slots.{condition_in, new_slot, slot_with_outcome}
use Rattle.sim_happen_model.specs.TableOf.{new_kept}
use Rattle.sim_events.proofs.Storing.{kept_with}
use Rattle.sim_events.specs.Stores.{IsSoundTable}
use Rattle.sim_happen_model.specs.Changes.{with_outcome}
use Rattle.sim_events.specs.States.{state_of, state_by}
use Rattle.sim_events.specs.declared.table.EventState.TheVariants as state
use Rattle.sim_events.proofs.Rewriting.{Rewrites, rewrites_slot}

pub rewrites_outcome : (places : List (Option ℕ)) (s : Store) (left : Chain) → IsSoundTable places s left → (e : EventId) (key : ℕ) (x : Slot)
    → place_of_number e.0 places ≡ Some key → get s.slots key ≡ Some x → (o : Outcome)
    → Rewrites places s (record s { slots = with_value s.slots key (slot_with_outcome o x) }) left e (with_outcome o)
rewrites_outcome places s left t e key x at found (outcome.Ok value) =
    rewrites_slot places s left t e key x at found (slot_with_outcome (outcome.Ok value) x) (with_outcome (outcome.Ok value)) refl refl refl refl
rewrites_outcome places s left t e key x at found (outcome.Fail thrown) =
    rewrites_slot places s left t e key x at found (slot_with_outcome (outcome.Fail thrown) x) (with_outcome (outcome.Fail thrown)) refl refl refl refl

-- an event that was just made has no callback and is no condition, with an outcome too
pub made_with : (kind : EventKind) (none : Chain) (o : Outcome) (parts : Slab ConditionOf)
    → let x = slot_with_outcome o (new_slot kind none) in
    (x.callbacks ≡ none) × (x.is_condition ≡ false) × (kept_with x [] (condition_in parts x) ≡ with_outcome o (new_kept (pending_event kind)))
made_with kind none (outcome.Ok value) parts = (refl, refl, refl)
made_with kind none (outcome.Fail thrown) parts = (refl, refl, refl)

pub settled_by : (b : Bool) → not b || true ≡ true
settled_by true = refl
settled_by false = refl

pub none_is_pending : (x : EventOf) → IsTrue (not x.processed || is_some x.outcome) → (x.outcome ≡ None) ↔ (state_of x ≡ state.Pending)
none_is_pending x settled = go x.processed x.outcome settled
  where
    go : (b : Bool) (o : Option Outcome) → IsTrue (not b || is_some o) → (o ≡ None) ↔ (cond b state.Processed (state_by o) ≡ state.Pending)
    go true None h = absurd (false≢true h)
    go true (Some x) h = (λ e. absurd (cc), λ e. absurd (cc))
    go false None h = (λ e. refl, λ e. refl)
    go false (Some x) h = (λ e. absurd (cc), λ e. absurd (cc))
