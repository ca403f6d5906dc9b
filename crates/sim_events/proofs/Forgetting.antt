-- A slot is given back with what it has, where its event is not to be kept.
use Rattle.std.proofs.Common.{◌≡◌, ℕ, suc, ◌+◌, ◌-◌, min, Bool, true, false, [], length, set, Some, None, is_some, cond, refl, sym, ap, ◌∙◌, arith, IsTrue}
use Rattle.std.specs.Option.{option_map}
use Rattle.std.proofs.lemmas.Option.{same_Some}
use Rattle.slab.specs.Slab.{Slab, get, slab_len, Updates, with_value, HasRoomFor}
use Rattle.sim_index.specs.IndexOf.{IndexOf, place_of_number}
use Rattle.sim_types.specs.declared.event.EventId.{EventId}
use Rattle.sim_machine.specs.State.{ConditionOf}
use Rattle.sim_callbacks.specs.declared.chain.Chain.{Chain}
use Rattle.sim_events.specs.declared.slot.Slot.{Slot}
use Rattle.sim_events.specs.declared.store.Store.{Store}
use Rattle.sim_callbacks.specs.Chains.{callbacks_in, spare_in, IsChain}
use Rattle.sim_callbacks.specs.Keeping.{KeepsOthers}
use Rattle.sim_events.specs.Slots.{kept_in, condition_in, is_slot_needed}
use Rattle.sim_events.specs.Stores.{spare_of, kept_by_key, events_in, table_of, IsStored, ArePlaced, IsSoundTable, GivesBack, ForgetsSlot, FreesPart}
use Rattle.sim_happen_model.specs.TableOf.{Kept, IsKept, is_needed, is_settled, kept_at, kept_count, kept_and_spare}
use Rattle.sim_happen_model.specs.Changes.{without_holder, change_or_forget, callbacks_freed, conditions_freed}
use Rattle.sim_events.proofs.Slabs.{with_value_len, there_from}
use Rattle.sim_events.proofs.Nodes.{nodes_relinked}
use Rattle.sim_events.proofs.Parts.{KeepsParts, parts_same, parts_updated, free_own}
use Rattle.sim_events.proofs.Storing.{stored_with, others_with}
use Rattle.sim_events.proofs.Placing.{event_found, kept_found, kept_is_placed, placed_less, events_less}
use Rattle.sim_events.proofs.KeptLists.{kept_is, count_changed, kept_changed, forgotten_changed, forgotten_needed, forgotten_unneeded, count_forgotten, ordered_forgotten}
use Rattle.sim_events.proofs.Rewriting.{Rewrites, is_kept, one_fewer, rewrites_released}

-- ---- the store

module _ (s : Store) (calls : Chain) (w : IsStored s calls) (key : ℕ) (x : Slot) (found : get s.slots key ≡ Some x) where
  pub chain_there : IsChain s.nodes x.callbacks
  chain_there = record { owners = w.owners; whose = suc key; linked = w.chains key x found }

  pub condition_there : is_some (condition_in s.parts x) ≡ x.is_condition
  condition_there = go x.is_condition refl
    where
      go : (b : Bool) → x.is_condition ≡ b → is_some (cond b (get s.parts x.part) None) ≡ b
      go true holds = (w.parts key x found holds).there
      go false fails = refl

  parts_freed : (parts : Slab ConditionOf) → FreesPart x.is_condition x.part s.parts parts → KeepsParts s.parts parts w.part_owner key None
  parts_freed parts f = go x.is_condition refl
    where
      fit : HasRoomFor parts 0
      fit = omega (arith, w.parts_fit, f.len, f.capacity)

      go : (b : Bool) → x.is_condition ≡ b → KeepsParts s.parts parts w.part_owner key None
      go true holds =
          let own = free_own s.parts w.part_owner key x.part (w.parts key x found holds).mine in
          parts_updated s.parts parts w.part_owner key x.part None (f.one holds) None own (λ y is. absurd (cc)) fit
      go false fails = let same = f.none fails in rw same (parts_same s.parts w.part_owner key None (λ y is. absurd (cc)) w.parts_fit)

  pub gives_back : (new : Store) (chain : Chain) → Updates s.slots new.slots key None → slab_len new.slots + 1 ≡ slab_len s.slots
      → new.slots.capacity ≡ s.slots.capacity → KeepsOthers s.nodes x.callbacks new.nodes chain
      → spare_in new.nodes ≡ spare_in s.nodes + length (callbacks_in s.nodes x.callbacks)
      → FreesPart x.is_condition x.part s.parts new.parts → GivesBack s key new calls
  gives_back new chain updates len capacity others spare f =
      let r = others w.owners (suc key) (w.chains key x found) in
      let n = nodes_relinked s.nodes new.nodes w.owners key None calls chain r (λ y is. absurd (cc)) w.left in
      let p = parts_freed new.parts f in
      let is : kept_by_key s key ≡ Some (kept_in s.nodes s.parts x) = ap (option_map (kept_in s.nodes s.parts)) found in
      record {
        updates = updates;
        stored = stored_with s new calls calls w key None updates n p (omega (arith, w.slots_fit));
        others = others_with s new calls calls w key None updates n p;
        left = r.same 0 calls (λ e. omega (arith, e)) w.left;
        slots = omega (arith, w.slots_fit);
        nodes = λ k h. let same = same_Some _ k (sym is ∙ h) in rw (sym same) spare;
        parts = λ k h. let same = same_Some _ k (sym is ∙ h) in rw (sym same, condition_there) (omega (arith, w.parts_fit, f.len, f.capacity));
      }

-- ---- an event goes, or stays where it is to be kept

spare_more : (i n c d : ℕ) → d + 1 ≡ c → d + min (i + 1) (n + 1) ≡ c + min i n
spare_more i n c d less = omega arith

module _ (index : IndexOf) (s : Store) (calls : Chain) (placed : ArePlaced index.places s.slots) (w : IsStored s calls) (e : EventId) (key : ℕ) (x : Slot)
    (at : place_of_number e.0 index.places ≡ Some key) (found : get s.slots key ≡ Some x) where
  there : IsKept (events_in index.places s) e
  there = kept_is_placed index.places s placed e.0 ∙ ap is_some at

  seen : kept_at (events_in index.places s) e ≡ kept_in s.nodes s.parts x
  seen = kept_found index.places s e key x at found

  pub stays : is_slot_needed x ≡ true → ForgetsSlot e index s index s calls
  stays needed =
      let holds : is_needed (kept_at (events_in index.places s) e) ≡ true = rw seen needed in
      record {
        placed = placed;
        stored = w;
        forgets = record {
          events = forgotten_needed (events_in index.places s) e there holds;
          left = refl;
          all = refl;
          callbacks = rw holds (omega arith);
          conditions = rw holds (omega arith);
        };
      }

  pub goes : is_slot_needed x ≡ false → (later : IndexOf) (new : Store) → later.places ≡ set index.places e.0 None → later.spare ≡ index.spare + 1
      → GivesBack s key new calls → ForgetsSlot e index s later new calls
  goes needed later new places spare c =
      let was = events_in index.places s in
      let fails : is_needed (kept_at was e) ≡ false = rw seen needed in
      let gone : events_in later.places new ≡ set was e.0 None = ap (λ ps. events_in ps new) places ∙ events_less index.places s new placed e.0 key at c.others in
      let is : kept_by_key s key ≡ Some (kept_at was e) = sym (event_found index.places s e.0 key at) ∙ kept_is was e there in
      record {
        placed = rw places (placed_less index.places s new placed e.0 key at c.updates);
        stored = c.stored;
        forgets = record {
          events = gone ∙ forgotten_unneeded was e fails;
          left = c.left;
          all = rw (gone, spare, c.slots) (spare_more index.spare (spare_of s.slots) _ _ (count_forgotten was e there));
          callbacks = rw fails (c.nodes _ is);
          conditions = rw fails (c.parts _ is);
        };
      }

-- ---- an event changes, and then goes or stays

-- what holds of the table then
pub record Forgotten (index : IndexOf) (old : Store) (was : Chain) (later : IndexOf) (new : Store) (calls : Chain) (e : EventId) (change : Kept → Kept)
    : Type 0 where
  pub sound : IsSoundTable later.places new calls
  pub events : events_in later.places new ≡ change_or_forget e change (events_in index.places old)
  pub left : callbacks_in new.nodes calls ≡ callbacks_in old.nodes calls
  pub all : kept_and_spare (table_of later new calls) ≡ kept_and_spare (table_of index old was)
  pub callbacks : spare_in new.nodes ≡ spare_in old.nodes + callbacks_freed (change (kept_at (events_in index.places old) e))
  pub conditions : spare_of new.parts ≡ spare_of old.parts + conditions_freed (change (kept_at (events_in index.places old) e))

module _ (index later : IndexOf) (old mid new : Store) (left calls : Chain) (t : IsSoundTable index.places old left) (e : EventId) (key : ℕ)
    (change : Kept → Kept) where
  pub forgotten : place_of_number e.0 index.places ≡ Some key → Rewrites index.places old mid calls e change
      → spare_of mid.slots ≡ spare_of old.slots → mid.nodes ≡ old.nodes → spare_of mid.parts ≡ spare_of old.parts
      → IsTrue (is_settled (change (kept_at (events_in index.places old) e)))
      → ForgetsSlot e index mid later new calls → Forgotten index old left later new calls e change
  forgotten at r slots nodes parts settled d =
      let was = events_in index.places old in
      let now = events_in index.places mid in
      let kept = is_kept index.places old left t e key at in
      let events = forgotten_changed was e change kept now (events_in later.places new) r.events d.forgets.events in
      let count : kept_count now ≡ kept_count was = ap kept_count r.events ∙ count_changed was e change kept in
      let is : kept_at now e ≡ change (kept_at was e) = ap (λ es. kept_at es e) r.events ∙ kept_changed was e change kept in
      record {
        sound = record { placed = d.placed; stored = d.stored; in_order = rw events (ordered_forgotten was e change t.in_order kept settled) };
        events = events;
        left = d.forgets.left ∙ ap (λ ns. callbacks_in ns calls) nodes;
        all = d.forgets.all ∙ rw (count, slots) refl;
        callbacks = d.forgets.callbacks ∙ ap (λ ns. spare_in ns + callbacks_freed (kept_at now e)) nodes ∙ ap (λ k. spare_in old.nodes + callbacks_freed k) is;
        conditions = d.forgets.conditions ∙ ap (λ n. n + conditions_freed (kept_at now e)) parts ∙ ap (λ k. spare_of old.parts + conditions_freed k) is;
      }

-- where the slot alone changed before
pub forgotten_slot : (index later : IndexOf) (s new : Store) (left : Chain) (t : IsSoundTable index.places s left) (e : EventId) (key : ℕ) (x y : Slot)
    (change : Kept → Kept) → place_of_number e.0 index.places ≡ Some key → get s.slots key ≡ Some x
    → Rewrites index.places s (record s { slots = with_value s.slots key y }) left e change
    → IsTrue (is_settled (change (kept_at (events_in index.places s) e)))
    → ((calls : Chain) → IsStored (record s { slots = with_value s.slots key y }) calls
    → ForgetsSlot e index (record s { slots = with_value s.slots key y }) later new calls)
    → Forgotten index s left later new left e change
forgotten_slot index later s new left t e key x y change at found r settled d =
    let same = ap (λ n. s.slots.capacity - n) (with_value_len s.slots key y (there_from s.slots key x found)) in
    forgotten index later s (record s { slots = with_value s.slots key y }) new left left t e key change at r same refl refl settled (d left r.stored)

-- where one holder fewer is all that changed before
pub released : (index later : IndexOf) (s new : Store) (left : Chain) (t : IsSoundTable index.places s left) (e : EventId) (key : ℕ) (x : Slot)
    → place_of_number e.0 index.places ≡ Some key → get s.slots key ≡ Some x
    → ((calls : Chain) → IsStored (record s { slots = with_value s.slots key (one_fewer x) }) calls
    → ForgetsSlot e index (record s { slots = with_value s.slots key (one_fewer x) }) later new calls)
    → Forgotten index s left later new left e without_holder
released index later s new left t e key x at found d =
    forgotten_slot index later s new left t e key x (one_fewer x) without_holder at found (rewrites_released index.places s left t e key x at found)
    (t.in_order e (is_kept index.places s left t e key at)).1 d

-- an event without callbacks frees none
pub freed_none : (k : Kept) → k.callbacks ≡ [] → callbacks_freed k ≡ 0
freed_none k none = go (is_needed k)
  where
    go : (b : Bool) → cond b 0 (length k.callbacks) ≡ 0
    go true = refl
    go false = ap length none
