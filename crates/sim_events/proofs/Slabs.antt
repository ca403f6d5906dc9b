-- How many values a slab has, as one is changed or taken out.
use Rattle.std.proofs.Common.{◌≡◌, ◌≢◌, ℕ, ◌+◌, set, get_or, Option, Some, None, is_some, IsSome, cond, count_by, refl, ap, arith}
use Rattle.std.proofs.lemmas.Bool.{false≢true}
use Rattle.std.proofs.lemmas.List.Sums.{sum_by-set}
use Rattle.slab.specs.Slab.{Slab, get, slab_len, with_value, ContainsKey}
use Rattle.slab.proofs.SlabLemmas.{ContainsKey-within}

pub with_value_len : {X : Type 0} (s : Slab X) (key : ℕ) (y : X) → ContainsKey s key → slab_len (with_value s key y) ≡ slab_len s
with_value_len {X} s key y there =
    let change : count_by is_some (set s.slots key (Some y)) + cond (is_some (get_or s.slots key None)) 1 0 ≡ count_by is_some s.slots + 1 = sum_by-set (λ (o : Option X). cond (is_some o) 1 0) s.slots key (Some y) None (ContainsKey-within s key there) in
    omega (arith, rw there at change)

-- a key that is free has no value
pub vacant_apart : {X : Type 0} (s : Slab X) (key k : ℕ) → get s key ≡ None → IsSome (get s k) → k ≢ key
vacant_apart s key k vacant there same = false≢true (rw (same, vacant) at there)

pub there_from : {X : Type 0} (s : Slab X) (key : ℕ) (x : X) → get s key ≡ Some x → ContainsKey s key
there_from s key x found = rw found refl

-- a slab with more room has the same values
pub reserved_get : {X : Type 0} (old new : Slab X) → new ≡ record old { capacity = new.capacity } → (k : ℕ) → get new k ≡ get old k
reserved_get old new same k = ap (λ s. get s k) same

pub reserved_len : {X : Type 0} (old new : Slab X) → new ≡ record old { capacity = new.capacity } → slab_len new ≡ slab_len old
reserved_len old new same = ap slab_len same
