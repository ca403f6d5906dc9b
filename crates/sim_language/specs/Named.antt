-- Lists of things with names. The first of a name counts.
use Rattle.std.specs.Prelude.{ℕ, suc, Bool, if◌then◌else◌, List, [], ◌∷◌, ◌++◌, Option, Some, None, option_map, is_some, unwrap_or}
use Rattle.sim_language.specs.Lines.{Word, same}

-- a thing with its name
pub record Named (A : Type 0) : Type 0 where
  pub name : Word
  pub value : A

-- what has the name, if there is one
abbrev pub value_of : {A : Type 0} → Word → List (Named A) → Option A
value_of w [] = None
value_of w (n ∷ ns) = if same w n.name then Some n.value else value_of w ns

abbrev pub is_named : {A : Type 0} → Word → List (Named A) → Bool
is_named w ns = is_some (value_of w ns)

-- the place of the name, counted from 0
abbrev pub place_of : {A : Type 0} → Word → List (Named A) → Option ℕ
place_of w [] = None
place_of w (n ∷ ns) = if same w n.name then Some 0 else option_map suc (place_of w ns)

abbrev pub place_or_none : {A : Type 0} → Word → List (Named A) → ℕ
place_or_none w ns = unwrap_or (place_of w ns) 0

-- one more behind these, unless its name is there
abbrev pub with_one : {A : Type 0} → List (Named A) → Named A → List (Named A)
with_one known n = if is_named n.name known then known else known ++ n ∷ []

-- more of them, one behind the other
abbrev pub with_all : {A : Type 0} → List (Named A) → List (Named A) → List (Named A)
with_all known [] = known
with_all known (n ∷ ns) = with_all (with_one known n) ns
