-- Lists that hold a few values.
use Rattle.std.specs.Prelude.{ℕ, List, [], ◌∷◌, ◌++◌, length, nat_lt, if◌then◌else◌}

-- the list with one more value behind the others, if fewer than so many are held
abbrev pub pushed_within : {T : Type 0} → ℕ → List T → T → List T
pushed_within most xs x = if nat_lt (length xs) most then xs ++ x ∷ [] else xs
