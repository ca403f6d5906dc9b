-- What a change of the nodes leaves of the chains of all slots but one, and of the callbacks that are left to call.
use Rattle.std.proofs.Common.{◌≡◌, ◌≢◌, ℕ, suc, Option, Some, refl, sym, arith}
use Rattle.std.proofs.lemmas.Option.{same_Some}
use Rattle.slab.specs.Slab.{Slab}
use Rattle.sim_callbacks.specs.declared.chain.Node.{Node}
use Rattle.sim_callbacks.specs.declared.chain.Chain.{Chain}
use Rattle.sim_callbacks.specs.Chains.{callbacks_in, Owners, IsLinked, IsEmpty}
use Rattle.sim_callbacks.specs.Keeping.{Relinked, PassedOn}
use Rattle.sim_events.specs.declared.slot.Slot.{Slot}

-- the slot of this key is now this, and has its chain; the slots of other keys keep theirs; and these callbacks are left
pub record KeepsNodes (old new : Slab Node) (w : Owners) (key : ℕ) (slot : Option Slot) (calls : Chain) : Type 0 where
  pub owners : Owners
  pub own : (x : Slot) → slot ≡ Some x → IsLinked new owners (suc key) x.callbacks
  pub others : (k : ℕ) (c : Chain) → k ≢ key → IsLinked old w (suc k) c → IsLinked new owners (suc k) c
  pub same : (k : ℕ) (c : Chain) → k ≢ key → IsLinked old w (suc k) c → callbacks_in new c ≡ callbacks_in old c
  pub left : IsLinked new owners 0 calls

-- no node changes
pub nodes_same : (nodes : Slab Node) (w : Owners) (key : ℕ) (slot : Option Slot) (calls : Chain)
    → ((x : Slot) → slot ≡ Some x → IsLinked nodes w (suc key) x.callbacks) → IsLinked nodes w 0 calls
    → KeepsNodes nodes nodes w key slot calls
nodes_same nodes w key slot calls own left = record {
  owners = w;
  own = own;
  others = λ k c apart l. l;
  same = λ k c apart l. refl;
  left = left;
}

-- the chain of the slot changes, or goes with it
pub nodes_relinked : (old new : Slab Node) (w : Owners) (key : ℕ) (slot : Option Slot) (calls chain : Chain)
    → Relinked old new w (suc key) chain → ((x : Slot) → slot ≡ Some x → x.callbacks ≡ chain)
    → IsLinked old w 0 calls → KeepsNodes old new w key slot calls
nodes_relinked old new w key slot calls chain r is left = record {
  owners = r.owners;
  own = λ x h. rw (is x h) r.here;
  others = λ k c apart l. r.others (suc k) c (λ s. apart (omega (arith, s))) l;
  same = λ k c apart l. r.same (suc k) c (λ s. apart (omega (arith, s))) l;
  left = r.others 0 calls (λ s. omega (arith, s)) left;
}

-- the chain of the slot is passed on to those that are left to call
pub nodes_begun : (nodes : Slab Node) (w : Owners) (key : ℕ) (y : Slot) (chain : Chain) → PassedOn nodes w (suc key) 0 chain
    → IsEmpty y.callbacks → KeepsNodes nodes nodes w key (Some y) chain
nodes_begun nodes w key y chain passed none = record {
  owners = passed.owners;
  own = λ z is. rw (sym (same_Some y z is)) (none.anyones nodes passed.owners (suc key));
  others = λ k c apart l. passed.others (suc k) c (λ s. apart (omega (arith, s))) l;
  same = λ k c apart l. refl;
  left = passed.here;
}
