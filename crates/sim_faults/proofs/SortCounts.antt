-- How many names of a sort there are.
use Rattle.std.proofs.Common.{◌≤◌, Bool, List, [], ◌∷◌, length, filter, arith}

-- no more than there are names
pub length_filter_bound : {X : Type 0} (p : X → Bool) (xs : List X) → length (filter p xs) ≤ length xs
length_filter_bound p [] = omega arith
length_filter_bound p (x ∷ xs) = grind (arith, length_filter_bound p xs)
