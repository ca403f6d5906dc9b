-- What a change of the parts leaves of the parts of all slots but one.
use Rattle.std.proofs.Common.{◌≡◌, ◌≢◌, ℕ, Bool, true, false, Option, Some, None, IsSome, cond, eqb, refl, sym, ap, ◌∙◌}
use Rattle.std.proofs.lemmas.Bool.{eq-eqb, ne_eqb, false≢true}
use Rattle.std.proofs.lemmas.Option.{same_Some}
use Rattle.slab.specs.Slab.{Slab, get, Updates, with_value, ContainsKey, HasRoomFor}
use Rattle.slab.proofs.SlabLemmas.{Updates-with_value}
use Rattle.sim_machine.specs.State.{ConditionOf}
use Rattle.sim_machine.specs.Conditions.{condition_of}
use Rattle.sim_events.specs.declared.slot.Slot.{Slot}
use Rattle.sim_events.specs.Slots.{condition_in}
use Rattle.sim_events.specs.Stores.{IsPartOf, HasPart}
use Rattle.sim_events.proofs.Slabs.{vacant_apart}

-- the slot of this key is now this, and has its part; the slots of other keys keep theirs
pub record KeepsParts (old new : Slab ConditionOf) (owner : ℕ → ℕ) (key : ℕ) (slot : Option Slot) : Type 0 where
  pub owners : ℕ → ℕ
  pub own : (x : Slot) → slot ≡ Some x → HasPart new owners key x
  pub others : (k : ℕ) (x : Slot) → k ≢ key → HasPart old owner k x → HasPart new owners k x
  pub same : (k : ℕ) (x : Slot) → k ≢ key → HasPart old owner k x → condition_in new x ≡ condition_in old x
  pub fit : HasRoomFor new 0

-- no part changes
pub parts_same : (parts : Slab ConditionOf) (owner : ℕ → ℕ) (key : ℕ) (slot : Option Slot)
    → ((x : Slot) → slot ≡ Some x → HasPart parts owner key x) → HasRoomFor parts 0 → KeepsParts parts parts owner key slot
parts_same parts owner key slot own fit = record {
  owners = owner;
  own = own;
  others = λ k x apart h. h;
  same = λ k x apart h. refl;
  fit = fit;
}

-- the slot of an event that is no condition
pub parts_plain : (parts : Slab ConditionOf) (owner : ℕ → ℕ) (key : ℕ) (x : Slot) → x.is_condition ≡ false → HasRoomFor parts 0
    → KeepsParts parts parts owner key (Some x)
parts_plain parts owner key x plain fit =
    parts_same parts owner key (Some x) (λ y is holds. absurd (false≢true (sym plain ∙ ap (λ (z : Slot). z.is_condition) (same_Some x y is) ∙ holds))) fit

-- a part that is free, or is the slot's own, is written or goes
module _ (old new : Slab ConditionOf) (owner : ℕ → ℕ) (key part : ℕ) (now : Option ConditionOf) (updates : Updates old new part now) where
  owner_now : ℕ → ℕ
  owner_now k = cond (eqb k part) key (owner k)

  owner_there : owner_now part ≡ key
  unfolding owner_now
  owner_there = rw (eq-eqb part part refl) refl

  owner_else : (k : ℕ) → k ≢ part → owner_now k ≡ owner k
  unfolding owner_now
  owner_else k apart = rw (ne_eqb k part apart) refl

  condition_else : (x : Slot) (b : Bool) → (b ≡ true → x.part ≢ part) → cond b (get new x.part) None ≡ cond b (get old x.part) None
  condition_else x true apart = updates.others x.part (apart refl)
  condition_else x false apart = refl

  pub parts_updated : (slot : Option Slot) → ((k p : ℕ) → k ≢ key → IsPartOf old owner k p → p ≢ part)
      → ((x : Slot) → slot ≡ Some x → x.is_condition ≡ true → (x.part ≡ part) × IsSome now) → HasRoomFor new 0
      → KeepsParts old new owner key slot
  parts_updated slot free own fit = record {
    owners = owner_now;
    own = λ x is holds. let h = own x is holds in record { there = rw (h.0, updates.changed) h.1; mine = ap owner_now h.0 ∙ owner_there };
    others = λ k x apart h holds.
        let p = h holds in
        let differs = free k x.part apart p in
        record { there = rw (updates.others x.part differs) p.there; mine = owner_else x.part differs ∙ p.mine };
    same = λ k x apart h. condition_else x x.is_condition (λ holds. free k x.part apart (h holds));
    fit = fit;
  }

-- a part that was free was nobody's
pub free_vacant : (parts : Slab ConditionOf) (owner : ℕ → ℕ) (key part : ℕ) → get parts part ≡ None
    → (k p : ℕ) → k ≢ key → IsPartOf parts owner k p → p ≢ part
free_vacant parts owner key part vacant k p apart h = vacant_apart parts part p vacant h.there

-- a part has one owner
pub free_own : (parts : Slab ConditionOf) (owner : ℕ → ℕ) (key part : ℕ) → owner part ≡ key
    → (k p : ℕ) → k ≢ key → IsPartOf parts owner k p → p ≢ part
free_own parts owner key part mine k p apart h same = apart (sym h.mine ∙ ap owner same ∙ mine)

-- ---- what is seen of a condition

pub condition_seen : (parts : Slab ConditionOf) (x : Slot) (holds : x.is_condition ≡ true) → condition_in parts x ≡ get parts x.part
condition_seen parts x holds = rw holds refl

-- its part is written
pub condition_written : (parts : Slab ConditionOf) (x : Slot) (z now : ConditionOf) (change : ConditionOf → ConditionOf) → x.is_condition ≡ true
    → get parts x.part ≡ Some z → now ≡ change z
    → condition_in (with_value parts x.part now) x ≡ Some (change (condition_of (condition_in parts x)))
condition_written parts x z now change holds found is =
    let there : ContainsKey parts x.part = rw found refl in
    condition_seen (with_value parts x.part now) x holds ∙ (Updates-with_value parts x.part now there).changed
    ∙ ap (λ y. let o : Option ConditionOf = Some y in o) is
    ∙ ap (λ o. let p : Option ConditionOf = Some (change (condition_of o)) in p) (sym (condition_seen parts x holds ∙ found))
