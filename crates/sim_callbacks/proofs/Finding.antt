-- A search along a chain.
use Rattle.std.proofs.Common.{◌≡◌, ℕ, suc, ◌+◌, ◌<◌, true, false, Some, refl, sym, ap, ◌∙◌, inl, inr, arith}
use Rattle.std.specs.List.{list_any}
use Rattle.std.proofs.lemmas.Bool.{cases_lt}
use Rattle.slab.specs.Slab.{Slab, get}
use Rattle.sim_types.specs.declared.event.Callback.{Callback}
use Rattle.sim_machine.specs.Events.{without_first}
use Rattle.sim_callbacks.specs.declared.chain.Node.{Node}
use Rattle.sim_callbacks.specs.declared.chain.Chain.{Chain}
use Rattle.sim_callbacks.specs.declared.chain.Found.{Found}
use Rattle.sim_machine.specs.Callbacks.{is_same_callback}
use Rattle.sim_callbacks.specs.Chains.{node_at, key_at, first_key, callbacks_in}
use Rattle.sim_callbacks.specs.Places.{IsFirstWith, without_at}
use Rattle.sim_callbacks.proofs.Links.{key_next, from_none, from_any, from_without_first}
use Rattle.sim_callbacks.proofs.Relinking.{node_read}

-- so many nodes were looked at, and none of them has the callback; the next one stands after this key
pub record Looked (nodes : Slab Node) (chain : Chain) (wanted : Callback) (place before : ℕ) : Type 0 where
  pub here : before ≡ key_at nodes place chain.last
  pub none : (j : ℕ) → j < place → is_same_callback wanted (node_at nodes (key_at nodes j (first_key nodes chain))).callback ≡ false

pub looked_none : (nodes : Slab Node) (chain : Chain) (wanted : Callback) → Looked nodes chain wanted 0 chain.last
looked_none nodes chain wanted = record { here = refl; none = λ j h. absurd (omega arith) }

-- the key of the node that is looked at
pub looked_at : (nodes : Slab Node) (chain : Chain) (wanted : Callback) (place before : ℕ) (x : Node) → Looked nodes chain wanted place before
    → get nodes before ≡ Some x → x.next ≡ key_at nodes place (first_key nodes chain)
looked_at nodes chain wanted place before x l read =
    ap (λ (y : Node). y.next) (sym (node_read nodes before x read)) ∙ ap (λ k. (node_at nodes k).next) l.here ∙ sym (key_next nodes place chain.last)

pub looked_more : (nodes : Slab Node) (chain : Chain) (wanted : Callback) (place before at : ℕ) (x : Node) → Looked nodes chain wanted place before
    → at ≡ key_at nodes place (first_key nodes chain) → get nodes at ≡ Some x → is_same_callback wanted x.callback ≡ false
    → Looked nodes chain wanted (place + 1) at
looked_more nodes chain wanted place before at x l is_at read differs =
    let first = first_key nodes chain in
    let this : node_at nodes (key_at nodes place first) ≡ x = ap (λ k. node_at nodes k) (sym is_at) ∙ node_read nodes at x read in
    let up : place + 1 ≡ suc place = omega arith in
    record {
      here = is_at ∙ ap (λ i. key_at nodes i chain.last) (sym up);
      none = λ j h. elim (cases_lt j place) [
        | inl earlier ↦ l.none j earlier
        | inr last ↦ let same : j ≡ place = omega arith in rw (same, this) differs
      ];
    }

pub looked_found : (nodes : Slab Node) (chain : Chain) (wanted : Callback) (place before at : ℕ) (x : Node)
    → Looked nodes chain wanted place before → place < chain.count → at ≡ key_at nodes place (first_key nodes chain) → get nodes at ≡ Some x
    → is_same_callback wanted x.callback ≡ true → IsFirstWith nodes chain wanted (record { place = place; at = at; before = before })
looked_found nodes chain wanted place before at x l h is_at read same =
    let first = first_key nodes chain in
    let this : node_at nodes (key_at nodes place first) ≡ x = ap (λ k. node_at nodes k) (sym is_at) ∙ node_read nodes at x read in
    record {
      stands = record { within = h; at = is_at; before = l.here };
      here = rw this same;
      not_earlier = l.none;
    }

pub looked_all : (nodes : Slab Node) (chain : Chain) (wanted : Callback) (before : ℕ) → Looked nodes chain wanted chain.count before
    → list_any (is_same_callback wanted) (callbacks_in nodes chain) ≡ false
looked_all nodes chain wanted before l = from_none nodes (is_same_callback wanted) chain.count (first_key nodes chain) l.none

pub found_any : (nodes : Slab Node) (chain : Chain) (wanted : Callback) (found : Found) → IsFirstWith nodes chain wanted found
    → list_any (is_same_callback wanted) (callbacks_in nodes chain) ≡ true
found_any nodes chain wanted found f =
    from_any nodes (is_same_callback wanted) found.place chain.count (first_key nodes chain) f.stands.within f.here

pub found_without : (nodes : Slab Node) (chain : Chain) (wanted : Callback) (found : Found) → IsFirstWith nodes chain wanted found
    → without_at found.place (callbacks_in nodes chain) ≡ without_first (is_same_callback wanted) (callbacks_in nodes chain)
found_without nodes chain wanted found f =
    let first = first_key nodes chain in
    sym (from_without_first nodes (is_same_callback wanted) found.place chain.count first f.stands.within f.not_earlier f.here)
