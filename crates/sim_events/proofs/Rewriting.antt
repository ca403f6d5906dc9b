-- The slot of an event is written, and what it has: the table stays sound, and shows that event changed.
use Rattle.std.proofs.Common.{◌≡◌, ℕ, suc, ◌-◌, Bool, true, false, cond, List, set, Option, Some, None, is_some, IsSome, refl, sym, ap, ◌∙◌, arith}
use Rattle.std.specs.Option.{option_map}
use Rattle.std.proofs.lemmas.Bool.{false≢true}
use Rattle.std.proofs.lemmas.Option.{same_Some}
use Rattle.slab.specs.Slab.{Slab, get, Updates, with_value, HasRoomFor}
use Rattle.slab.proofs.SlabLemmas.{Updates-with_value}
use Rattle.sim_index.specs.IndexOf.{place_of_number}
use Rattle.sim_types.specs.declared.event.EventId.{EventId}
use Rattle.sim_machine.specs.State.{ConditionOf}
use Rattle.sim_callbacks.specs.declared.chain.Node.{Node}
use Rattle.sim_callbacks.specs.declared.chain.Chain.{Chain}
use Rattle.sim_events.specs.declared.slot.Slot.{Slot}
use Rattle.sim_events.specs.declared.store.Store.{Store}
use Rattle.sim_callbacks.specs.Chains.{callbacks_in, IsChain, IsEmpty}
use Rattle.sim_callbacks.specs.Keeping.{Relinked, MayBePassedOn}
use Rattle.sim_events.specs.Slots.{kept_in}
use Rattle.sim_events.specs.Stores.{events_in, HasPart, IsStored, ArePlaced, IsSoundTable}
use Rattle.sim_happen_model.specs.TableOf.{Kept, IsKept, IsInOrder, kept_at}
use Rattle.sim_happen_model.specs.Changes.{change_kept, on_condition, without_holder}
use Rattle.sim_events.proofs.Slabs.{with_value_len, there_from}
use Rattle.sim_events.proofs.Nodes.{KeepsNodes, nodes_same, nodes_relinked, nodes_begun}
use Rattle.sim_events.proofs.Parts.{condition_written, KeepsParts, parts_same, parts_updated, free_own}
use Rattle.sim_events.proofs.Storing.{kept_with, stored_with, others_with}
use Rattle.sim_events.proofs.Placing.{kept_found, kept_is_placed, placed_changed, events_changed}
use Rattle.sim_events.proofs.KeptLists.{ordered_changed}

-- the store is in order, and of all events only this one changed
pub record Rewrites (places : List (Option ℕ)) (old new : Store) (calls : Chain) (e : EventId) (change : Kept → Kept) : Type 0 where
  pub placed : ArePlaced places new.slots
  pub stored : IsStored new calls
  pub events : events_in places new ≡ change_kept e change (events_in places old)

-- the slot of an event once it has one holder fewer
abbrev pub one_fewer : Slot → Slot
one_fewer x = record x { holders = x.holders - 1 }

pub is_kept : (places : List (Option ℕ)) (s : Store) (left : Chain) → IsSoundTable places s left → (e : EventId) (key : ℕ)
    → place_of_number e.0 places ≡ Some key → IsKept (events_in places s) e
is_kept places s left t e key at = kept_is_placed places s t.placed e.0 ∙ ap is_some at

pub sound_rewritten : (places : List (Option ℕ)) (old new : Store) (left calls : Chain) → IsSoundTable places old left → (e : EventId) (key : ℕ)
    → place_of_number e.0 places ≡ Some key → (change : Kept → Kept) → Rewrites places old new calls e change
    → IsInOrder (change (kept_at (events_in places old) e)) → IsSoundTable places new calls
sound_rewritten places old new left calls t e key at change r ordered = record {
  placed = r.placed;
  stored = r.stored;
  in_order = rw r.events (ordered_changed (events_in places old) e change t.in_order (is_kept places old left t e key at) ordered);
}

module _ (places : List (Option ℕ)) (old new : Store) (left calls : Chain) (t : IsSoundTable places old left) (e : EventId) (key : ℕ) (x y : Slot) (change : Kept → Kept) where
  pub rewrites : place_of_number e.0 places ≡ Some key → get old.slots key ≡ Some x → Updates old.slots new.slots key (Some y) → HasRoomFor new.slots 0
      → KeepsNodes old.nodes new.nodes t.stored.owners key (Some y) calls → KeepsParts old.parts new.parts t.stored.part_owner key (Some y)
      → kept_in new.nodes new.parts y ≡ change (kept_in old.nodes old.parts x) → Rewrites places old new calls e change
  rewrites at found updates fit n p is =
      let others = others_with old new left calls t.stored key (Some y) updates n p in
      let now : kept_in new.nodes new.parts y ≡ change (kept_at (events_in places old) e) = is ∙ ap change (sym (kept_found places old e key x at found)) in
      record {
        placed = placed_changed places old new t.placed key y updates;
        stored = stored_with old new left calls t.stored key (Some y) updates n p fit;
        events = events_changed places old new t.placed e.0 key at others
            ∙ ap (set (events_in places old) e.0) (ap (option_map (kept_in new.nodes new.parts)) updates.changed ∙ ap (λ (k : Kept). let o : Option Kept = Some k in o) now);
      }

module _ (places : List (Option ℕ)) (s : Store) (left : Chain) (t : IsSoundTable places s left) (e : EventId) (key : ℕ) (x : Slot) (at : place_of_number e.0 places ≡ Some key) (found : get s.slots key ≡ Some x) where
  still_fit : (y : Slot) → HasRoomFor (with_value s.slots key y) 0
  still_fit y = omega (arith, t.stored.slots_fit, with_value_len s.slots key y (there_from s.slots key x found))

  own_part : (y : Slot) → y.is_condition ≡ x.is_condition → y.part ≡ x.part → HasPart s.parts t.stored.part_owner key y
  own_part y condition part holds = rw part (t.stored.parts key x found (sym condition ∙ holds))

  own_parts : (y : Slot) → y.is_condition ≡ x.is_condition → y.part ≡ x.part → KeepsParts s.parts s.parts t.stored.part_owner key (Some y)
  own_parts y condition part = parts_same s.parts t.stored.part_owner key (Some y) (λ z is. rw (sym (same_Some y z is)) (own_part y condition part)) t.stored.parts_fit

  -- the slot alone
  pub rewrites_slot : (y : Slot) (change : Kept → Kept) → y.callbacks ≡ x.callbacks → y.is_condition ≡ x.is_condition → y.part ≡ x.part
      → kept_in s.nodes s.parts y ≡ change (kept_in s.nodes s.parts x) → Rewrites places s (record s { slots = with_value s.slots key y }) left e change
  rewrites_slot y change chain condition part is =
      let linked = nodes_same s.nodes t.stored.owners key (Some y) left (λ z is. rw (sym (same_Some y z is), chain) (t.stored.chains key x found)) t.stored.left in
      rewrites places s (record s { slots = with_value s.slots key y }) left left t e key x y change at found (Updates-with_value s.slots key y (there_from s.slots key x found)) (still_fit y) linked (own_parts y condition part) is

  -- one holder fewer
  pub rewrites_released : Rewrites places s (record s { slots = with_value s.slots key (one_fewer x) }) left e without_holder
  rewrites_released = rewrites_slot (one_fewer x) without_holder refl refl refl refl

  -- its chain
  pub own_chain : IsChain s.nodes x.callbacks
  own_chain = record { owners = t.stored.owners; whose = suc key; linked = t.stored.chains key x found }

  -- its chain, with what else is kept in it
  pub rewrites_chained : (nodes : Slab Node) (y : Slot) (change : Kept → Kept)
      → (r : Relinked s.nodes nodes t.stored.owners (suc key) y.callbacks) → y.is_condition ≡ x.is_condition → y.part ≡ x.part
      → kept_in nodes s.parts y ≡ change (kept_in s.nodes s.parts x)
      → Rewrites places s (record s { slots = with_value s.slots key y; nodes = nodes }) left e change
  rewrites_chained nodes y change r condition part is =
      let new : Store = record s { slots = with_value s.slots key y; nodes = nodes } in
      let linked = nodes_relinked s.nodes nodes t.stored.owners key (Some y) left y.callbacks r (λ z is. ap (λ (a : Slot). a.callbacks) (sym (same_Some y z is))) t.stored.left in
      rewrites places s new left left t e key x y change at found (Updates-with_value s.slots key y (there_from s.slots key x found)) (still_fit y) linked (own_parts y condition part) is

  pub rewrites_chain : (nodes : Slab Node) (chain : Chain) (change : Kept → Kept)
      → (r : Relinked s.nodes nodes t.stored.owners (suc key) chain)
      → kept_in nodes s.parts (record x { callbacks = chain }) ≡ change (kept_in s.nodes s.parts x)
      → Rewrites places s (record s { slots = with_value s.slots key (record x { callbacks = chain }); nodes = nodes }) left e change
  rewrites_chain nodes chain change r is = rewrites_chained nodes (record x { callbacks = chain }) change r refl refl is

  -- its part
  pub part_there : x.is_condition ≡ true → IsSome (get s.parts x.part)
  part_there holds = (t.stored.parts key x found holds).there

  pub rewrites_part : (now : ConditionOf) (change : Kept → Kept) → x.is_condition ≡ true
      → kept_in s.nodes (with_value s.parts x.part now) x ≡ change (kept_in s.nodes s.parts x)
      → Rewrites places s (record s { parts = with_value s.parts x.part now }) left e change
  rewrites_part now change holds is =
      let new : Store = record s { parts = with_value s.parts x.part now } in
      let updates : Updates s.slots s.slots key (Some x) = record { changed = found; others = λ k apart. refl } in
      let linked = nodes_same s.nodes t.stored.owners key (Some x) left (λ z is. rw (sym (same_Some x z is)) (t.stored.chains key x found)) t.stored.left in
      let fit : HasRoomFor (with_value s.parts x.part now) 0 = omega (arith, t.stored.parts_fit, with_value_len s.parts x.part now (part_there holds)) in
      let parts = parts_updated s.parts (with_value s.parts x.part now) t.stored.part_owner key x.part (Some now) (Updates-with_value s.parts x.part now (part_there holds)) (Some x) (free_own s.parts t.stored.part_owner key x.part (t.stored.parts key x found holds).mine) (λ z is also. (ap (λ (a : Slot). a.part) (sym (same_Some x z is)), refl)) fit in
      rewrites places s new left left t e key x x change at found updates t.stored.slots_fit linked parts is

  -- ---- the event begins: its chain is handed over to what is left to call

  pub rewrites_begun : (y : Slot) (change : Kept → Kept) → IsEmpty y.callbacks → MayBePassedOn x.callbacks → y.is_condition ≡ x.is_condition → y.part ≡ x.part
      → kept_in s.nodes s.parts y ≡ change (kept_in s.nodes s.parts x)
      → Rewrites places s (record s { slots = with_value s.slots key y }) x.callbacks e change
  rewrites_begun y change none passes condition part is =
      let begun = nodes_begun s.nodes t.stored.owners key y x.callbacks (passes s.nodes t.stored.owners (suc key) 0 (t.stored.chains key x found)) none in
      rewrites places s (record s { slots = with_value s.slots key y }) left x.callbacks t e key x y change at found (Updates-with_value s.slots key y (there_from s.slots key x found)) (still_fit y) begun (own_parts y condition part) is

  -- an event that is seen as a condition has a part
  pub is_condition : IsSome (kept_at (events_in places s) e).event.condition → x.is_condition ≡ true
  is_condition some = go x.is_condition (rw (kept_found places s e key x at found) at some)
    where
      go : (b : Bool) → IsSome (cond b (get s.parts x.part) None) → b ≡ true
      go true h = refl
      go false h = absurd (false≢true h)

  -- what it has as a condition changes
  pub rewrites_condition : (z now : ConditionOf) (change : ConditionOf → ConditionOf) → IsSome (kept_at (events_in places s) e).event.condition
      → get s.parts x.part ≡ Some z → now ≡ change z
      → Rewrites places s (record s { parts = with_value s.parts x.part now }) left e (on_condition change)
  rewrites_condition z now change some part is =
      let holds = is_condition some in
      let written = condition_written s.parts x z now change holds part is in
      rewrites_part now (on_condition change) holds (ap (kept_with x (callbacks_in s.nodes x.callbacks)) written)
