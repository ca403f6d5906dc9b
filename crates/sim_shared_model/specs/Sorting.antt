-- How a list stands in order by a test that tells whether one element comes before another: equals stand as they came
-- (SimPy's SortedQueue).
use Rattle.std.specs.Prelude.{◌≡◌, Bool, false, List, [], ◌∷◌, if◌then◌else◌, AllPairs}

-- one that came after all others stands before those that it comes before, and behind the rest
abbrev pub put_behind : {X : Type 0} → (X → X → Bool) → X → List X → List X
put_behind before x [] = x ∷ []
put_behind before x (y ∷ ys) = if before x y then x ∷ y ∷ ys else y ∷ put_behind before x ys

-- one that came before all others stands behind those that come before it
abbrev pub put_ahead : {X : Type 0} → (X → X → Bool) → X → List X → List X
put_ahead before x [] = x ∷ []
put_ahead before x (y ∷ ys) = if before y x then y ∷ put_ahead before x ys else x ∷ y ∷ ys

-- a list, told as its elements came, in order
abbrev pub sorted_by : {X : Type 0} → (X → X → Bool) → List X → List X
sorted_by before [] = []
sorted_by before (x ∷ xs) = put_ahead before x (sorted_by before xs)

-- no element comes before one that stands before it
abbrev pub IsInOrderBy : {X : Type 0} → (X → X → Bool) → List X → Type 0
IsInOrderBy before xs = AllPairs (λ x y. before y x ≡ false) xs
