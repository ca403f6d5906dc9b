-- What each change of the nodes leaves of all chains.
use Rattle.std.specs.Prelude.{◌≡◌, ◌≢◌, ℕ, [], ◌∷◌, Option, MatchOption}
use Rattle.slab.specs.Slab.{Slab}
use Rattle.sim_types.specs.declared.event.Callback.{Callback}
use Rattle.sim_callbacks.specs.declared.chain.Node.{Node}
use Rattle.sim_callbacks.specs.declared.chain.Chain.{Chain}
use Rattle.sim_callbacks.specs.Chains.{callbacks_in, Owners, IsLinked}

-- this owner now has this chain, and the chains of all other owners are as they were
pub record Relinked (old new : Slab Node) (w : Owners) (o : ℕ) (chain : Chain) : Type 0 where
  pub owners : Owners
  pub here : IsLinked new owners o chain
  pub others : (p : ℕ) (c : Chain) → p ≢ o → IsLinked old w p c → IsLinked new owners p c
  pub same : (p : ℕ) (c : Chain) → p ≢ o → IsLinked old w p c → callbacks_in new c ≡ callbacks_in old c

-- whoever owns the one chain now has the other, and all other chains are as they were
abbrev pub KeepsOthers : Slab Node → Chain → Slab Node → Chain → Type 0
KeepsOthers old chain new later = (w : Owners) (o : ℕ) → IsLinked old w o chain → Relinked old new w o later

-- all chains are as they were
pub record KeepsAll (old new : Slab Node) : Type 0 where
  pub linked : (w : Owners) (o : ℕ) (c : Chain) → IsLinked old w o c → IsLinked new w o c
  pub same : (c : Chain) → callbacks_in new c ≡ callbacks_in old c

-- the chain of o is p's now, and all others stay whose they were
pub record PassedOn (nodes : Slab Node) (w : Owners) (o p : ℕ) (chain : Chain) : Type 0 where
  pub owners : Owners
  pub here : IsLinked nodes owners p chain
  pub others : (q : ℕ) (c : Chain) → q ≢ o → IsLinked nodes w q c → IsLinked nodes owners q c

-- whoever owns the chain may pass it on
abbrev pub MayBePassedOn : Chain → Type 0
MayBePassedOn chain =
    (nodes : Slab Node) (w : Owners) (o p : ℕ) → IsLinked nodes w o chain → PassedOn nodes w o p chain

-- the first callback leaves a chain, if there is one
abbrev pub LosesFirst : Option Callback → Slab Node → Chain → Slab Node → Chain → Type 0
LosesFirst result old chain new later =
    MatchOption result
    ((callbacks_in old chain ≡ []) × (new ≡ old) × (later ≡ chain))
    (λ c. callbacks_in old chain ≡ c ∷ callbacks_in new later)
