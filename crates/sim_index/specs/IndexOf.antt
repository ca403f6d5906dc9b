-- What contracts see of an index.
use Rattle.std.specs.Prelude.{ℕ, List, Option, Some, None, [], ◌∷◌, ◌++◌, ◌-◌, length, replicate, slice_index_or}

-- the place of each number below the first that is still to be given, None where a number has none; and how many more
-- numbers fit without memory
pub record IndexOf : Type 0 where
  pub places : List (Option ℕ)
  pub spare : ℕ

-- the place of a number, if it has one
abbrev pub place_of_number : ℕ → List (Option ℕ) → Option ℕ
place_of_number n places = slice_index_or places n None

-- a number that is greater than all before gets a place; those that are passed over have none
abbrev pub with_number : ℕ → ℕ → List (Option ℕ) → List (Option ℕ)
with_number n place places = (places ++ replicate (n - length places) None) ++ Some place ∷ []
