-- A table that is empty, that has more room, an event more, or other callbacks left to call, is sound.
use Rattle.sim_happen_model.specs.TableOf.{IsInOrder}
use Rattle.std.proofs.Common.{◌≡◌, ℕ, suc, List, [], ◌∷◌, ◌++◌, Option, Some, None, is_some, refl, sym, ap, ◌∙◌, arith}
use Rattle.std.specs.Option.{option_map}
use Rattle.std.proofs.lemmas.Option.{same_Some}
use Rattle.std.proofs.lemmas.Bool.{false≢true}
use Rattle.slab.specs.Slab.{Slab, get, HasRoomFor}
use Rattle.sim_index.specs.IndexOf.{IndexOf, place_of_number}
use Rattle.sim_machine.specs.State.{ConditionOf}
use Rattle.sim_callbacks.specs.declared.chain.Node.{Node}
use Rattle.sim_callbacks.specs.declared.chain.Chain.{Chain}
use Rattle.sim_events.specs.declared.slot.Slot.{Slot}
use Rattle.sim_events.specs.declared.store.Store.{Store}
use Rattle.sim_callbacks.specs.Chains.{Owners, IsEmpty}
use Rattle.sim_callbacks.specs.Keeping.{Relinked, KeepsAll}
use Rattle.sim_events.specs.Slots.{kept_in, condition_in}
use Rattle.sim_events.specs.Stores.{events_in, IsSoundTable, AddsSlot}
use Rattle.sim_events.proofs.Nodes.{KeepsNodes, nodes_same}
use Rattle.sim_events.proofs.Parts.{KeepsParts}
use Rattle.sim_events.proofs.Storing.{kept_with, stored_with, others_with, stored_called, others_called, stored_reserved, others_reserved}
use Rattle.sim_events.proofs.Placing.{placed_more, events_more, events_same}
use Rattle.sim_events.proofs.KeptLists.{ordered_made}

-- ---- nothing is there

pub sound_none : (places : List (Option ℕ)) (s : Store) (calls : Chain) → places ≡ [] → s.slots.slots ≡ [] → s.parts.slots ≡ []
    → IsEmpty calls → IsSoundTable places s calls
sound_none places s calls no_place no_slot no_part no_call = record {
  placed = record {
    there = λ n key at. absurd (false≢true (ap is_some (sym (ap (place_of_number n) no_place) ∙ at)));
    apart = λ n m key at. absurd (false≢true (ap is_some (sym (ap (place_of_number n) no_place) ∙ at)));
  };
  stored = record {
    owners = nobody;
    chains = λ key x at. absurd (false≢true (ap is_some (sym (none key) ∙ at)));
    left = no_call.anyones s.nodes nobody 0;
    part_owner = λ k. 0;
    parts = λ key x at. absurd (false≢true (ap is_some (sym (none key) ∙ at)));
    slots_fit = rw no_slot (omega arith);
    parts_fit = rw no_part (omega arith);
  };
  in_order = rw no_place (λ e kept. absurd (false≢true kept));
}
  where
    nobody : Owners
    nobody = record { owner = λ k. 0; rank = λ k. 0 }

    none : (key : ℕ) → get s.slots key ≡ None
    none key = rw no_slot refl

-- ---- there is more room

module _ (places : List (Option ℕ)) (old new : Store) (calls : Chain) (t : IsSoundTable places old calls) where
  pub sound_reserved : ((k : ℕ) → get new.slots k ≡ get old.slots k) → KeepsAll old.nodes new.nodes → ((k : ℕ) → get new.parts k ≡ get old.parts k)
      → HasRoomFor new.slots 0 → HasRoomFor new.parts 0 → IsSoundTable places new calls
  sound_reserved slots nodes parts slots_fit parts_fit =
      let same = events_same places old new t.placed (others_reserved old new calls t.stored slots nodes parts) in
      record {
        placed = record { there = λ n key at. rw (slots key) (t.placed.there n key at); apart = t.placed.apart };
        stored = stored_reserved old new calls t.stored slots nodes parts slots_fit parts_fit;
        in_order = rw same t.in_order;
      }

-- ---- other callbacks are left to call

module _ (places : List (Option ℕ)) (s : Store) (nodes : Slab Node) (left calls : Chain) (t : IsSoundTable places s left) (r : Relinked s.nodes nodes t.stored.owners 0 calls) where
  pub events_called : events_in places (record s { nodes = nodes }) ≡ events_in places s
  events_called = events_same places s (record s { nodes = nodes }) t.placed (others_called s nodes left calls t.stored r)

  pub sound_called : IsSoundTable places (record s { nodes = nodes }) calls
  sound_called = record { placed = t.placed; stored = stored_called s nodes left calls t.stored r; in_order = rw events_called t.in_order }

-- ---- an event more

module _ (index later : IndexOf) (s : Store) (slots : Slab Slot) (parts : Slab ConditionOf) (left : Chain) (t : IsSoundTable index.places s left) (x : Slot) (a : AddsSlot index s.slots x later slots) (p : KeepsParts s.parts parts t.stored.part_owner a.key (Some x)) (none : IsEmpty x.callbacks) where
  own_none : KeepsNodes s.nodes s.nodes t.stored.owners a.key (Some x) left
  own_none = nodes_same s.nodes t.stored.owners a.key (Some x) left (λ z is. rw (sym (same_Some x z is)) (none.anyones s.nodes t.stored.owners (suc a.key))) t.stored.left

  pub events_made : events_in later.places (record { slots = slots; nodes = s.nodes; parts = parts })
      ≡ events_in index.places s ++ Some (kept_with x [] (condition_in parts x)) ∷ []
  events_made =
      let new : Store = record { slots = slots; nodes = s.nodes; parts = parts } in
      let n = own_none in
      ap (λ ps. events_in ps new) a.places
      ∙ events_more index.places s new t.placed a.key a.vacant (others_with s new left left t.stored a.key (Some x) a.updates n p)
      ∙ ap (λ o. events_in index.places s ++ o ∷ []) (ap (option_map (kept_in s.nodes parts)) a.updates.changed)
      ∙ ap (λ cs. events_in index.places s ++ Some (kept_with x cs (condition_in parts x)) ∷ []) (none.none s.nodes)

  pub sound_made : HasRoomFor s.slots 1 → IsInOrder (kept_with x [] (condition_in parts x))
      → IsSoundTable later.places (record { slots = slots; nodes = s.nodes; parts = parts }) left
  sound_made room ordered =
      let new : Store = record { slots = slots; nodes = s.nodes; parts = parts } in
      let n = own_none in
      record {
        placed = rw a.places (placed_more index.places s new t.placed a.key x a.vacant a.updates);
        stored = stored_with s new left left t.stored a.key (Some x) a.updates n p (omega (arith, room, a.len, a.capacity));
        in_order = rw events_made (ordered_made (events_in index.places s) (kept_with x [] (condition_in parts x)) t.in_order ordered);
      }
