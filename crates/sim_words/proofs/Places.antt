-- Places of names are below the length of their table.
use Rattle.std.proofs.Common.{◌≡◌, refl, ℕ, suc, ◌<◌, Bool, true, false, List, [], ◌∷◌, length, Option, Some, None, option_map, is_some, map, slice_get, if◌then◌else◌, arith}
use Rattle.std.specs.Option.{IfSome, option_and_then}
use Rattle.sim_language.specs.Lines.{Word, same}
use Rattle.sim_language.specs.Named.{Named, is_named, place_of, value_of}

further : (o : Option ℕ) (n : ℕ) → IfSome o (λ k. k < n) → IfSome (option_map suc o) (λ k. k < suc n)
further None n h = tt
further (Some k) n h = omega arith

pub place_of_below : {A : Type 0} (w : Word) (ns : List (Named A)) → IfSome (place_of w ns) (λ k. k < length ns)
place_of_below w [] = tt
place_of_below w (n ∷ ns) = by (same w n.name) refl (further (place_of w ns) (length ns) (place_of_below w ns))
  where
    by : (b : Bool) → same w n.name ≡ b → IfSome (option_map suc (place_of w ns)) (λ k. k < suc (length ns))
        → IfSome (place_of w (n ∷ ns)) (λ k. k < length (n ∷ ns))
    by true e h = rw e (omega arith)
    by false e h = rw e h

-- what has the name stands at its place
pub value_at_place : {A : Type 0} (w : Word) (ns : List (Named A)) → option_and_then (slice_get (map (λ n. n.value) ns)) (place_of w ns) ≡ value_of w ns
value_at_place w [] = refl
value_at_place w (n ∷ ns) = by (same w n.name) (place_of w ns) (value_at_place w ns)
  where
    by : (b : Bool) (o : Option ℕ) → option_and_then (slice_get (map (λ m. m.value) ns)) o ≡ value_of w ns
        → option_and_then (slice_get (map (λ m. m.value) (n ∷ ns))) (if b then Some 0 else option_map suc o) ≡ (if b then Some n.value else value_of w ns)
    by true o h = refl
    by false None h = h
    by false (Some k) h = h

pub is_named_at_place : {A : Type 0} (w : Word) (ns : List (Named A)) → is_some (place_of w ns) ≡ is_named w ns
is_named_at_place w [] = refl
is_named_at_place w (n ∷ ns) = by (same w n.name) (place_of w ns) (is_named_at_place w ns)
  where
    by : (b : Bool) (o : Option ℕ) → is_some o ≡ is_named w ns → is_some (if b then Some 0 else option_map suc o) ≡ is_some (if b then Some n.value else value_of w ns)
    by true o h = refl
    by false None h = h
    by false (Some k) h = h
