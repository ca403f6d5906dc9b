-- The letter that a word begins with, by which the words of the language are looked up.
use Rattle.std.specs.Prelude.{ℕ, zero, suc, ◌-◌, ◌==◌, Bool, false, if◌then◌else◌, List, [], ◌∷◌, filter, Option, Some, None}
use Rattle.std.specs.Borrow.{Bor}
use Rattle.sim_language.specs.declared.form.Form.{Form}
use Rattle.sim_language.specs.Lines.{Word}
use Rattle.sim_language.specs.Names.{is_small_letter}

-- the place in the alphabet, counted from 0, of the small letter that the word begins with, if it begins with one
abbrev pub letter : Word → Option ℕ
letter [] = None
letter (c ∷ cs) = if is_small_letter c then Some (c - 97) else None

-- whether the word begins with the letter at this place
abbrev pub begins_at : ℕ → Word → Bool
begins_at place w = by (letter w)
  where
    by : Option ℕ → Bool
    by None = false
    by (Some other) = other == place

-- the words that do
abbrev pub words_at : ℕ → List Word → List Word
words_at place vs = filter (begins_at place) vs

-- the rows of a table of words and forms of which the word does
abbrev pub rows_at : ℕ → List (Word × Form) → List (Word × Form)
rows_at place rows = filter (λ row. begins_at place row.0) rows

-- the row of a table at this place; none past the last
unfoldable pub row_of : {A : Type 0} → List (Bor (List A)) → ℕ → List A
row_of [] place = []
row_of (row ∷ table) zero = row.now
row_of (row ∷ table) (suc place) = row_of table place
