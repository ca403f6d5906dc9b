-- A search along a chain, and the list once an element is taken out.
use Rattle.std.specs.Prelude.{◌≡◌, ℕ, zero, suc, ◌<◌, Bool, true, false, List, [], ◌∷◌}
use Rattle.slab.specs.Slab.{Slab}
use Rattle.sim_types.specs.declared.event.Callback.{Callback}
use Rattle.sim_callbacks.specs.declared.chain.Node.{Node}
use Rattle.sim_callbacks.specs.declared.chain.Chain.{Chain}
use Rattle.sim_callbacks.specs.declared.chain.Found.{Found}
use Rattle.sim_machine.specs.Callbacks.{is_same_callback}
use Rattle.sim_callbacks.specs.Chains.{node_at, key_at, first_key}

-- where a node is found: its place in the chain, its key, and that of the node before it, which stands as many nodes after
-- the last as this one after the first
pub record IsFoundAt (nodes : Slab Node) (chain : Chain) (found : Found) : Type 0 where
  pub within : found.place < chain.count
  pub at : found.at ≡ key_at nodes found.place (first_key nodes chain)
  pub before : found.before ≡ key_at nodes found.place chain.last

-- whether the node of this place has this callback
abbrev pub is_callback_at : Slab Node → Chain → Callback → ℕ → Bool
is_callback_at nodes chain wanted i =
    is_same_callback wanted (node_at nodes (key_at nodes i (first_key nodes chain))).callback

-- the first node of the chain with this callback
pub record IsFirstWith (nodes : Slab Node) (chain : Chain) (wanted : Callback) (found : Found) : Type 0 where
  pub stands : IsFoundAt nodes chain found
  pub here : is_callback_at nodes chain wanted found.place ≡ true
  pub not_earlier : (j : ℕ) → j < found.place → is_callback_at nodes chain wanted j ≡ false

-- the list without the element of this place
abbrev pub without_at : {X : Type 0} → ℕ → List X → List X
without_at i [] = []
without_at zero (x ∷ xs) = xs
without_at (suc i) (x ∷ xs) = x ∷ without_at i xs
