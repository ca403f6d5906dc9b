-- The best element of a list, by a test that tells whether one takes the place of another.
use Rattle.std.specs.Prelude.{Bool, List, Option, [], ◌∷◌, Some, None, if◌then◌else◌}

-- of x and the others, gone through in order, the one whose place no later one takes
abbrev pub best_from : {X : Type 0} → (X → X → Bool) → X → List X → X
best_from takes_place x [] = x
best_from takes_place x (y ∷ ys) = best_from takes_place (if takes_place y x then y else x) ys

-- the best of a list, if it has an element
abbrev pub best : {X : Type 0} → (X → X → Bool) → List X → Option X
best takes_place [] = None
best takes_place (x ∷ xs) = Some (best_from takes_place x xs)
