-- How a table keeps its events: the index has the key of the slot of each number; a slot has a chain of callbacks, and
-- the key of a part where its event is a condition.
use Rattle.std.specs.Prelude.{◌≡◌, ◌≢◌, ℕ, suc, ◌+◌, ◌-◌, min, Bool, true, false, List, map, length, Option, Some, None, IsSome, is_some, option_and_then}
use Rattle.std.specs.Option.{option_map}
use Rattle.slab.specs.Slab.{Slab, get, slab_len, HasRoomFor, Updates}
use Rattle.sim_index.specs.IndexOf.{IndexOf, place_of_number, with_number}
use Rattle.sim_machine.specs.State.{ConditionOf}
use Rattle.sim_machine.specs.Standing.{one_if}
use Rattle.sim_types.specs.declared.event.EventId.{EventId}
use Rattle.sim_callbacks.specs.declared.chain.Chain.{Chain}
use Rattle.sim_events.specs.declared.slot.Slot.{Slot}
use Rattle.sim_events.specs.declared.store.Store.{Store}
use Rattle.sim_callbacks.specs.Chains.{callbacks_in, spare_in, Owners, IsLinked}
use Rattle.sim_events.specs.Slots.{kept_in}
use Rattle.sim_happen_model.specs.TableOf.{Kept, TableOf, AreInOrder, kept_at, kept_and_spare}
use Rattle.sim_happen_model.specs.Changes.{change_or_forget, callbacks_freed, conditions_freed}

-- how many more values fit without memory
abbrev pub spare_of : {X : Type 0} → Slab X → ℕ
spare_of s = s.capacity - slab_len s

-- the event whose slot has this key
abbrev pub kept_by_key : Store → ℕ → Option Kept
kept_by_key s key = option_map (kept_in s.nodes s.parts) (get s.slots key)

-- the events, by number
abbrev pub events_in : List (Option ℕ) → Store → List (Option Kept)
events_in places s = map (option_and_then (kept_by_key s)) places

-- what contracts see of an index, a store and the callbacks that are left to call
abbrev pub table_of : IndexOf → Store → Chain → TableOf
table_of index s left = record {
  events = events_in index.places s;
  left = callbacks_in s.nodes left;
  spare = record {
    events = min index.spare (spare_of s.slots);
    callbacks = spare_in s.nodes;
    conditions = spare_of s.parts;
  };
}

-- the part of this key is that of the slot of this one
pub record IsPartOf (parts : Slab ConditionOf) (owner : ℕ → ℕ) (key part : ℕ) : Type 0 where
  pub there : IsSome (get parts part)
  pub mine : owner part ≡ key

-- where its event is a condition, the slot of this key has a part
abbrev pub HasPart : Slab ConditionOf → (ℕ → ℕ) → ℕ → Slot → Type 0
HasPart parts owner key x = x.is_condition ≡ true → IsPartOf parts owner key x.part

-- No two chains have a node in common, and no two slots a part. The callbacks that are left to call belong to owner 0,
-- those of a slot to the number after its key.
pub record IsStored (s : Store) (calls : Chain) : Type 0 where
  pub owners : Owners
  pub chains : (key : ℕ) (x : Slot) → get s.slots key ≡ Some x → IsLinked s.nodes owners (suc key) x.callbacks
  pub left : IsLinked s.nodes owners 0 calls
  pub part_owner : ℕ → ℕ
  pub parts : (key : ℕ) (x : Slot) → get s.slots key ≡ Some x → HasPart s.parts part_owner key x
  pub slots_fit : HasRoomFor s.slots 0
  pub parts_fit : HasRoomFor s.parts 0

-- the same, whichever callbacks are left to call
pub record IsStore (s : Store) : Type 0 where
  pub left : Chain
  pub stored : IsStored s left

-- each place has a slot, and no two numbers have the same
pub record ArePlaced (places : List (Option ℕ)) (slots : Slab Slot) : Type 0 where
  pub there : (n key : ℕ) → place_of_number n places ≡ Some key → IsSome (get slots key)
  pub apart : (n m key : ℕ) → place_of_number n places ≡ Some key → place_of_number m places ≡ Some key → n ≡ m

-- all of it, and each event that is kept is in order
pub record IsSoundTable (places : List (Option ℕ)) (s : Store) (left : Chain) : Type 0 where
  pub placed : ArePlaced places s.slots
  pub stored : IsStored s left
  pub in_order : AreInOrder (events_in places s)

-- the slot of this key is no longer there, what it had is free, and all other events are as they were
pub record GivesBack (old : Store) (key : ℕ) (new : Store) (calls : Chain) : Type 0 where
  pub updates : Updates old.slots new.slots key None
  pub stored : IsStored new calls
  pub others : (k : ℕ) → k ≢ key → kept_by_key new k ≡ kept_by_key old k
  pub left : callbacks_in new.nodes calls ≡ callbacks_in old.nodes calls
  pub slots : spare_of new.slots ≡ spare_of old.slots + 1
  pub nodes : (k : Kept) → kept_by_key old key ≡ Some k → spare_in new.nodes ≡ spare_in old.nodes + length k.callbacks
  pub parts : (k : Kept) → kept_by_key old key ≡ Some k
      → spare_of new.parts ≡ spare_of old.parts + one_if (is_some k.event.condition)

-- an event goes where it is not to be kept, and all else stays
pub record Forgets (e : EventId) (old new : TableOf) : Type 0 where
  pub events : new.events ≡ change_or_forget e (λ k. k) old.events
  pub left : new.left ≡ old.left
  pub all : kept_and_spare new ≡ kept_and_spare old
  pub callbacks : new.spare.callbacks ≡ old.spare.callbacks + callbacks_freed (kept_at old.events e)
  pub conditions : new.spare.conditions ≡ old.spare.conditions + conditions_freed (kept_at old.events e)

-- so it does, by its slot and its place
pub record ForgetsSlot (e : EventId) (index : IndexOf) (old : Store) (later : IndexOf) (new : Store) (left : Chain)
    : Type 0 where
  pub placed : ArePlaced later.places new.slots
  pub stored : IsStored new left
  pub forgets : Forgets e (table_of index old left) (table_of later new left)

-- a part goes, if there is one
pub record FreesPart (is_there : Bool) (part : ℕ) (old new : Slab ConditionOf) : Type 0 where
  pub none : is_there ≡ false → new ≡ old
  pub one : is_there ≡ true → Updates old new part None
  pub len : slab_len new + one_if is_there ≡ slab_len old
  pub capacity : new.capacity ≡ old.capacity

-- a slot more, for the next number
pub record AddsSlot (index : IndexOf) (old : Slab Slot) (x : Slot) (later : IndexOf) (new : Slab Slot) : Type 0 where
  pub key : ℕ
  pub places : later.places ≡ with_number (length index.places) key index.places
  pub vacant : get old key ≡ None
  pub updates : Updates old new key (Some x)
  pub spare : later.spare + 1 ≡ index.spare
  pub len : slab_len new ≡ slab_len old + 1
  pub capacity : new.capacity ≡ old.capacity
