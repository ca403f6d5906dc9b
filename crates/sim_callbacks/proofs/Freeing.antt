-- All nodes of a chain are given back, one by one.
use Rattle.std.proofs.Common.{◌≡◌, ℕ, ◌+◌, [], refl, ◌∙◌, arith}
use Rattle.slab.specs.Slab.{Slab, slab_len}
use Rattle.sim_callbacks.specs.declared.chain.Node.{Node}
use Rattle.sim_callbacks.specs.declared.chain.Chain.{Chain}
use Rattle.sim_callbacks.specs.Chains.{callbacks_in, Owners, IsLinked, IsChain}
use Rattle.sim_callbacks.specs.Keeping.{Relinked}

-- nothing is done yet
pub relinked_none : (nodes : Slab Node) (w : Owners) (o : ℕ) (chain : Chain) → IsLinked nodes w o chain → Relinked nodes nodes w o chain
relinked_none nodes w o chain l = record { owners = w; here = l; others = λ p c apart h. h; same = λ p c apart h. refl }

-- one thing after another
pub relinked_then : (old mid new : Slab Node) (w : Owners) (o : ℕ) (chain later : Chain) → Relinked old mid w o chain
    → ((w : Owners) (o : ℕ) → IsLinked mid w o chain → Relinked mid new w o later) → Relinked old new w o later
relinked_then old mid new w o chain later first then =
    let second = then first.owners o first.here in
    record {
      owners = second.owners;
      here = second.here;
      others = λ p c apart h. second.others p c apart (first.others p c apart h);
      same = λ p c apart h. second.same p c apart (first.others p c apart h) ∙ first.same p c apart h;
    }

-- some of the nodes are given back
pub record Freed (old : Slab Node) (whole : Chain) (new : Slab Node) (rest : Chain) : Type 0 where
  pub chain : IsChain new rest
  pub relinked : (w : Owners) (o : ℕ) → IsLinked old w o whole → Relinked old new w o rest
  pub len : slab_len new + whole.count ≡ slab_len old + rest.count
  pub capacity : new.capacity ≡ old.capacity

pub freed_none : (nodes : Slab Node) (chain : Chain) → IsChain nodes chain → Freed nodes chain nodes chain
freed_none nodes chain c = record { chain = c; relinked = λ w o l. relinked_none nodes w o chain l; len = refl; capacity = refl }

pub freed_more : (old mid new : Slab Node) (whole chain rest : Chain) → Freed old whole mid chain
    → ((w : Owners) (o : ℕ) → IsLinked mid w o chain → Relinked mid new w o rest) → slab_len new + chain.count ≡ slab_len mid + rest.count
    → new.capacity ≡ mid.capacity → Freed old whole new rest
freed_more old mid new whole chain rest f then len capacity =
    let c = f.chain in
    let second = then c.owners c.whose c.linked in
    record {
      chain = record { owners = second.owners; whose = c.whose; linked = second.here };
      relinked = λ w o l. relinked_then old mid new w o chain rest (f.relinked w o l) then;
      len = omega (arith, f.len, len);
      capacity = capacity ∙ f.capacity;
    }

pub callbacks_none : (nodes : Slab Node) (chain : Chain) → chain.count ≡ 0 → callbacks_in nodes chain ≡ []
callbacks_none nodes chain h = rw h refl
