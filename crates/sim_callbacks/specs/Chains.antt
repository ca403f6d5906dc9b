-- Chains of callbacks in one slab. A chain names its last node and has so many; a node names the next, and the last names
-- the first.
use Rattle.std.specs.Prelude.{◌≡◌, ℕ, zero, suc, ◌-◌, ◌≤◌, List, [], ◌∷◌, Option, Some, None, IsSome}
use Rattle.slab.specs.Slab.{Slab, get, slab_len}
use Rattle.sim_types.specs.declared.event.Callback.{Callback}
use Rattle.sim_types.specs.declared.event.Callback.TheVariants as callback
use Rattle.sim_callbacks.specs.declared.chain.Node.{Node}
use Rattle.sim_callbacks.specs.declared.chain.Chain.{Chain}

abbrev pub node_or_blank : Option Node → Node
node_or_blank None = record { callback = callback.Stop; next = 0 }
node_or_blank (Some x) = x

-- the node of a key; a key without one reads as a blank node
abbrev pub node_at : Slab Node → ℕ → Node
node_at nodes key = node_or_blank (get nodes key)

-- so many callbacks from the node of a key on
abbrev pub callbacks_from : Slab Node → ℕ → ℕ → List Callback
callbacks_from nodes zero at = []
callbacks_from nodes (suc n) at = (node_at nodes at).callback ∷ callbacks_from nodes n (node_at nodes at).next

-- the key that comes so many nodes after a key
abbrev pub key_at : Slab Node → ℕ → ℕ → ℕ
key_at nodes zero at = at
key_at nodes (suc i) at = key_at nodes i (node_at nodes at).next

-- the key of the first node, which the last node names; it counts only where the chain has a node
abbrev pub first_key : Slab Node → Chain → ℕ
first_key nodes chain = (node_at nodes chain.last).next

-- the callbacks of a chain
abbrev pub callbacks_in : Slab Node → Chain → List Callback
callbacks_in nodes chain = callbacks_from nodes chain.count (first_key nodes chain)

-- To say that chains have no node in common, each node has an owner, and a rank that rises along its chain. Neither is
-- stored: a contract speaks of whatever owners there may be.
pub record Owners : Type 0 where
  pub owner : ℕ → ℕ
  pub rank : ℕ → ℕ

-- a node of this owner, of this rank or more, with n nodes after it
pub record IsLink (nodes : Slab Node) (owner rank : ℕ → ℕ) (o low n at last : ℕ) : Type 0 where
  pub there : IsSome (get nodes at)
  pub mine : owner at ≡ o
  pub after : low ≤ rank at
  pub ends : n ≡ 0 → at ≡ last

-- n nodes of this owner from a key on, of this rank or more
abbrev pub AreLinked : Slab Node → (ℕ → ℕ) → (ℕ → ℕ) → ℕ → ℕ → ℕ → ℕ → ℕ → Type 0
AreLinked nodes owner rank o low zero at last = Unit {0}
AreLinked nodes owner rank o low (suc n) at last =
    IsLink nodes owner rank o low n at last
    × AreLinked nodes owner rank o (suc (rank at)) n (node_at nodes at).next last

-- the nodes of a chain are those of this owner
pub record IsLinked (nodes : Slab Node) (w : Owners) (o : ℕ) (chain : Chain) : Type 0 where
  pub links : AreLinked nodes w.owner w.rank o 0 chain.count (first_key nodes chain) chain.last

-- the nodes of a chain are those of some owner
pub record IsChain (nodes : Slab Node) (chain : Chain) : Type 0 where
  pub owners : Owners
  pub whose : ℕ
  pub linked : IsLinked nodes owners whose chain

-- a chain without callbacks, which may be anybody's
pub record IsEmpty (chain : Chain) : Type 0 where
  pub none : (nodes : Slab Node) → callbacks_in nodes chain ≡ []
  pub anyones : (nodes : Slab Node) (w : Owners) (o : ℕ) → IsLinked nodes w o chain

-- how many more callbacks fit without memory
abbrev pub spare_in : Slab Node → ℕ
spare_in nodes = nodes.capacity - slab_len nodes
