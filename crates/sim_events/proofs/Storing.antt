-- A store stays in order as one slot changes, and all other events are as they were.
use Rattle.std.proofs.Common.{◌≡◌, ◌≢◌, ℕ, suc, List, Option, Some, None, cond, true, false, Bool, refl, sym, ap, ◌∙◌, inl, inr, arith}
use Rattle.std.specs.Option.{option_map}
use Rattle.std.proofs.lemmas.Bool.{cases_eq}
use Rattle.slab.specs.Slab.{Slab, get, Updates, HasRoomFor}
use Rattle.sim_types.specs.declared.event.Callback.{Callback}
use Rattle.sim_machine.specs.State.{ConditionOf}
use Rattle.sim_callbacks.specs.declared.chain.Chain.{Chain}
use Rattle.sim_callbacks.specs.declared.chain.Node.{Node}
use Rattle.sim_events.specs.declared.slot.Slot.{Slot}
use Rattle.sim_events.specs.declared.store.Store.{Store}
use Rattle.sim_callbacks.specs.Keeping.{Relinked, KeepsAll}
use Rattle.sim_events.specs.Slots.{kept_in, outcome_in}
use Rattle.sim_events.specs.Stores.{kept_by_key, IsStored}
use Rattle.sim_happen_model.specs.TableOf.{Kept}
use Rattle.sim_events.proofs.Nodes.{KeepsNodes}
use Rattle.sim_events.proofs.Parts.{KeepsParts}

-- what is seen of a slot with these callbacks and this condition
abbrev pub kept_with : Slot → List Callback → Option ConditionOf → Kept
kept_with x callbacks condition = record {
  event = record {
    kind = x.kind;
    outcome = outcome_in x;
    defused = x.defused;
    processed = x.processed;
    cancelled = x.cancelled;
    condition = condition;
  };
  callbacks = callbacks;
  holders = x.holders;
}

pub same_kept : (x : Slot) (cs ds : List Callback) (o p : Option ConditionOf) → cs ≡ ds → o ≡ p → kept_with x cs o ≡ kept_with x ds p
same_kept x cs ds o p a b = rw (a, b) refl

module _ (old new : Store) (left calls : Chain) (w : IsStored old left) (key : ℕ) (slot : Option Slot) (updates : Updates old.slots new.slots key slot) (n : KeepsNodes old.nodes new.nodes w.owners key slot calls) (p : KeepsParts old.parts new.parts w.part_owner key slot) where
  pub stored_with : HasRoomFor new.slots 0 → IsStored new calls
  stored_with fit = record {
    owners = n.owners;
    chains = λ k x at. elim (cases_eq k key) [
      | inl here ↦ rw here (n.own x (sym updates.changed ∙ ap (get new.slots) (sym here) ∙ at))
      | inr there ↦ n.others k x.callbacks there (w.chains k x (sym (updates.others k there) ∙ at))
    ];
    left = n.left;
    part_owner = p.owners;
    parts = λ k x at. elim (cases_eq k key) [
      | inl here ↦ rw here (p.own x (sym updates.changed ∙ ap (get new.slots) (sym here) ∙ at))
      | inr there ↦ p.others k x there (w.parts k x (sym (updates.others k there) ∙ at))
    ];
    slots_fit = fit;
    parts_fit = p.fit;
  }

  pub others_with : (k : ℕ) → k ≢ key → kept_by_key new k ≡ kept_by_key old k
  others_with k there = ap (option_map (kept_in new.nodes new.parts)) (updates.others k there) ∙ go (get old.slots k) refl
    where
      go : (o : Option Slot) → get old.slots k ≡ o → option_map (kept_in new.nodes new.parts) o ≡ option_map (kept_in old.nodes old.parts) o
      go None at = refl
      go (Some x) at = ap (λ (k : Kept). Some k) (same_kept x _ _ _ _ (n.same k x.callbacks there (w.chains k x at)) (p.same k x there (w.parts k x at)))

-- ---- the callbacks that are left to call change, and no slot

module _ (s : Store) (nodes : Slab Node) (left calls : Chain) (w : IsStored s left) (r : Relinked s.nodes nodes w.owners 0 calls) where
  pub stored_called : IsStored (record s { nodes = nodes }) calls
  stored_called = record {
    owners = r.owners;
    chains = λ k x at. r.others (suc k) x.callbacks (λ e. omega (arith, e)) (w.chains k x at);
    left = r.here;
    part_owner = w.part_owner;
    parts = w.parts;
    slots_fit = w.slots_fit;
    parts_fit = w.parts_fit;
  }

  pub others_called : (k : ℕ) → kept_by_key (record s { nodes = nodes }) k ≡ kept_by_key s k
  others_called k = go (get s.slots k) refl
    where
      go : (o : Option Slot) → get s.slots k ≡ o → option_map (kept_in nodes s.parts) o ≡ option_map (kept_in s.nodes s.parts) o
      go None at = refl
      go (Some x) at = ap (λ (k : Kept). Some k) (same_kept x _ _ _ _ (r.same (suc k) x.callbacks (λ e. omega (arith, e)) (w.chains k x at)) refl)

-- ---- there is more room, and all else stays

module _ (old new : Store) (calls : Chain) (w : IsStored old calls) (slots : (k : ℕ) → get new.slots k ≡ get old.slots k) (nodes : KeepsAll old.nodes new.nodes) (parts : (k : ℕ) → get new.parts k ≡ get old.parts k) where
  pub stored_reserved : HasRoomFor new.slots 0 → HasRoomFor new.parts 0 → IsStored new calls
  stored_reserved slots_fit parts_fit = record {
    owners = w.owners;
    chains = λ k x at. nodes.linked w.owners (suc k) x.callbacks (w.chains k x (sym (slots k) ∙ at));
    left = nodes.linked w.owners 0 calls w.left;
    part_owner = w.part_owner;
    parts = λ k x at condition. let p = w.parts k x (sym (slots k) ∙ at) condition in record { there = rw (parts x.part) p.there; mine = p.mine };
    slots_fit = slots_fit;
    parts_fit = parts_fit;
  }

  condition_still : (x : Slot) (b : Bool) → cond b (get new.parts x.part) None ≡ cond b (get old.parts x.part) None
  condition_still x true = parts x.part
  condition_still x false = refl

  pub others_reserved : (k : ℕ) → kept_by_key new k ≡ kept_by_key old k
  others_reserved k = ap (option_map (kept_in new.nodes new.parts)) (slots k) ∙ go (get old.slots k) refl
    where
      go : (o : Option Slot) → get old.slots k ≡ o → option_map (kept_in new.nodes new.parts) o ≡ option_map (kept_in old.nodes old.parts) o
      go None at = refl
      go (Some x) at = ap (λ (k : Kept). Some k) (same_kept x _ _ _ _ (nodes.same x.callbacks) (condition_still x x.is_condition))
