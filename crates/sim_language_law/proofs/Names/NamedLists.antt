-- Lists of things with names, as they grow.
use Rattle.std.specs.Prelude.{◌≡◌, refl, ℕ, zero, suc, Bool, true, false, if◌then◌else◌, List, [], ◌∷◌, ◌++◌, Option, Some, None, is_some, option_map, map, slice_get}
use Rattle.std.proofs.Common.{arith, sym, ap, ◌∙◌, ◌⊎◌, inl, inr}
use Rattle.std.proofs.lemmas.Bool.{false≢true}
use Rattle.std.proofs.lemmas.Option.{none-some, same_Some}
use Rattle.std.proofs.lemmas.Slice.Eq.{bytes_eq-Decides}
use Rattle.sim_language.specs.Lines.{Word, same}
use Rattle.sim_language.specs.Named.{Named, value_of, is_named, place_of, with_one}

pub same_self : (w : Word) → same w w ≡ true
same_self w = (bytes_eq-Decides w w).1 refl

pub same_is : (v w : Word) → same v w ≡ true → v ≡ w
same_is v w h = (bytes_eq-Decides v w).0 h

-- what has a name keeps it
pub value_of_kept : {A : Type 0} (w : Word) (ns ms : List (Named A)) (v : A) → value_of w ns ≡ Some v → value_of w (ns ++ ms) ≡ Some v
value_of_kept w [] ms v h = absurd (none-some v h)
value_of_kept w (n ∷ ns) ms v h = by (same w n.name) h (value_of_kept w ns ms v)
  where
    by : (b : Bool) → (if b then Some n.value else value_of w ns) ≡ Some v
        → (value_of w ns ≡ Some v → value_of w (ns ++ ms) ≡ Some v)
        → (if b then Some n.value else value_of w (ns ++ ms)) ≡ Some v
    by true e rest = e
    by false e rest = rest e

-- where none of the first has the name, it is told by those behind them
pub value_of_behind : {A : Type 0} (w : Word) (ns ms : List (Named A)) → value_of w ns ≡ None → value_of w (ns ++ ms) ≡ value_of w ms
value_of_behind w [] ms h = refl
value_of_behind w (n ∷ ns) ms h = by (same w n.name) h (value_of_behind w ns ms)
  where
    by : (b : Bool) → (if b then Some n.value else value_of w ns) ≡ None
        → (value_of w ns ≡ None → value_of w (ns ++ ms) ≡ value_of w ms)
        → (if b then Some n.value else value_of w (ns ++ ms)) ≡ value_of w ms
    by true e rest = absurd (none-some n.value (sym e))
    by false e rest = rest e

-- a thing of the name is one of the first, or the last
pub value_of_push : {A : Type 0} (w : Word) (ns : List (Named A)) (n : Named A) (v : A) → value_of w (ns ++ n ∷ []) ≡ Some v
    → (value_of w ns ≡ Some v) ⊎ ((same w n.name ≡ true) × (n.value ≡ v))
value_of_push w ns n v h = by (value_of w ns) refl
  where
    last : (b : Bool) → same w n.name ≡ b → (if b then Some n.value else None) ≡ Some v → (same w n.name ≡ true) × (n.value ≡ v)
    last true e some = (e, same_Some n.value v some)
    last false e some = absurd (none-some v some)

    by : (o : Option _) → value_of w ns ≡ o → (value_of w ns ≡ Some v) ⊎ ((same w n.name ≡ true) × (n.value ≡ v))
    by None e = inr (last (same w n.name) refl (sym (value_of_behind w ns (n ∷ []) e) ∙ h))
    by (Some u) e = inl (e ∙ (sym (value_of_kept w ns (n ∷ []) u e) ∙ h))

pub with_one_new : {A : Type 0} (ns : List (Named A)) (n : Named A) → is_named n.name ns ≡ false → with_one ns n ≡ ns ++ n ∷ []
with_one_new ns n h = rw h refl

-- ---- whether a name is there

some_is : {A : Type 0} (o : Option A) → is_some o ≡ true → (v : A) × (o ≡ Some v)
some_is None h = absurd (false≢true h)
some_is (Some v) h = (v, refl)

pub named_value : {A : Type 0} (w : Word) (ns : List (Named A)) → is_named w ns ≡ true → (v : A) × (value_of w ns ≡ Some v)
named_value w ns h = some_is (value_of w ns) h

pub named_kept : {A : Type 0} (w : Word) (ns ms : List (Named A)) → is_named w ns ≡ true → is_named w (ns ++ ms) ≡ true
named_kept w ns ms h = let found = named_value w ns h in ap is_some (value_of_kept w ns ms found.0 found.1)

pub named_last : {A : Type 0} (w : Word) (ns : List (Named A)) (n : Named A) → same w n.name ≡ true → is_named w (ns ++ n ∷ []) ≡ true
named_last w [] n h = rw h refl
named_last w (m ∷ ns) n h = by (same w m.name) (named_last w ns n h)
  where
    by : (b : Bool) → is_some (value_of w (ns ++ n ∷ [])) ≡ true → is_some (if b then Some m.value else value_of w (ns ++ n ∷ [])) ≡ true
    by true rest = refl
    by false rest = rest

pub named_push : {A : Type 0} (w : Word) (ns : List (Named A)) (n : Named A) → is_named w (ns ++ n ∷ []) ≡ true
    → (is_named w ns ≡ true) ⊎ (same w n.name ≡ true)
named_push w ns n h = by (value_of_push w ns n (named_value w (ns ++ n ∷ []) h).0 (named_value w (ns ++ n ∷ []) h).1)
  where
    by : (value_of w ns ≡ Some (named_value w (ns ++ n ∷ []) h).0)
        ⊎ ((same w n.name ≡ true) × (n.value ≡ (named_value w (ns ++ n ∷ []) h).0))
        → (is_named w ns ≡ true) ⊎ (same w n.name ≡ true)
    by (inl old) = inl (ap is_some old)
    by (inr new) = inr new.0

-- ---- places

later_is : (o : Option ℕ) (i : ℕ) → option_map suc o ≡ Some (suc i) → o ≡ Some i
later_is None i h = absurd (none-some (suc i) h)
later_is (Some j) i h = let e = same_Some (suc j) (suc i) h in let same : j ≡ i = omega (arith, e) in ap Some same

never_first : (o : Option ℕ) → option_map suc o ≡ Some 0 → false ≡ true
never_first None h = absurd (none-some 0 h)
never_first (Some j) h = let e = same_Some (suc j) 0 h in absurd (omega (arith, e))

-- only one name has a place
pub place_same : {A : Type 0} (v w : Word) (ns : List (Named A)) (i : ℕ) → place_of v ns ≡ Some i → place_of w ns ≡ Some i → v ≡ w
place_same v w [] i h g = absurd (none-some i h)
place_same v w (n ∷ ns) i h g = by i (same v n.name) refl (same w n.name) refl h g (place_same v w ns)
  where
    by : (j : ℕ) (b : Bool) → same v n.name ≡ b → (c : Bool) → same w n.name ≡ c
        → (if b then Some 0 else option_map suc (place_of v ns)) ≡ Some j
        → (if c then Some 0 else option_map suc (place_of w ns)) ≡ Some j
        → ((k : ℕ) → place_of v ns ≡ Some k → place_of w ns ≡ Some k → v ≡ w) → v ≡ w
    by j true e true f h g rest = same_is v n.name e ∙ sym (same_is w n.name f)
    by zero true e false f h g rest = absurd (false≢true (never_first (place_of w ns) g))
    by (suc k) true e false f h g rest = let none = same_Some 0 (suc k) h in absurd (omega (arith, none))
    by zero false e c f h g rest = absurd (false≢true (never_first (place_of v ns) h))
    by (suc k) false e true f h g rest = let none = same_Some 0 (suc k) g in absurd (omega (arith, none))
    by (suc k) false e false f h g rest = rest k (later_is (place_of v ns) k h) (later_is (place_of w ns) k g)

-- what has a name stands at its place
pub place_value : {A : Type 0} (w : Word) (ns : List (Named A)) (v : A) → value_of w ns ≡ Some v
    → (i : ℕ) × (place_of w ns ≡ Some i) × (slice_get (map (λ n. n.value) ns) i ≡ Some v)
place_value w [] v h = absurd (none-some v h)
place_value w (n ∷ ns) v h = by (same w n.name) refl h (place_value w ns v)
  where
    by : (b : Bool) → same w n.name ≡ b → (if b then Some n.value else value_of w ns) ≡ Some v
        → (value_of w ns ≡ Some v → (i : ℕ) × (place_of w ns ≡ Some i) × (slice_get (map (λ m. m.value) ns) i ≡ Some v))
        → (i : ℕ) × ((if b then Some 0 else option_map suc (place_of w ns)) ≡ Some i)
        × (slice_get (map (λ m. m.value) (n ∷ ns)) i ≡ Some v)
    by true e some rest = (0, refl, some)
    by false e some rest = let found = rest some in (suc found.0, ap (option_map suc) found.1, found.2)
