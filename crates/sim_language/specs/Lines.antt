-- The lines of a text, and the words of a line.
--     lines text      the pieces between line feeds; an empty last piece is no line
--     cut line        the line without one carriage return at its end, up to its first '#'
--     words cut       the pieces between blanks that are not empty
use Rattle.std.specs.Prelude.{ℕ, Bool, true, false, not, ◌||◌, ◌==◌, if◌then◌else◌, List, [], ◌∷◌, filter, nat_lt}
use Rattle.std.specs.Str.{bytes_eq}
use Rattle.std.specs.List.{list_any}

-- a word, a name or a line, as bytes
abbrev pub Word : Type 0
Word = List ℕ

-- c in front of the first piece
abbrev pub onto_first : ℕ → List Word → List Word
onto_first c [] = (c ∷ []) ∷ []
onto_first c (p ∷ ps) = (c ∷ p) ∷ ps

-- what stands in front of each byte that passes the test; what follows the last of these is a piece if it is not empty
abbrev pub pieces : (ℕ → Bool) → List ℕ → List Word
pieces ends [] = []
pieces ends (c ∷ cs) = if ends c then [] ∷ pieces ends cs else onto_first c (pieces ends cs)

abbrev pub is_line_feed : ℕ → Bool
is_line_feed c = c == 10

-- the pieces between line feeds; an empty last piece is no line
abbrev pub lines : List ℕ → List Word
lines text = pieces is_line_feed text

-- ---- a line

-- what stands in front of the first that passes the test
abbrev pub up_to : {A : Type 0} → (A → Bool) → List A → List A
up_to test [] = []
up_to test (x ∷ xs) = if test x then [] else x ∷ up_to test xs

-- the line without one carriage return at its end
abbrev pub without_return : Word → Word
without_return [] = []
without_return (c ∷ []) = if c == 13 then [] else c ∷ []
without_return (c ∷ d ∷ cs) = c ∷ without_return (d ∷ cs)

-- a '#' begins a comment
abbrev pub is_hash : ℕ → Bool
is_hash c = c == 35

abbrev pub cut : Word → Word
cut line = up_to is_hash (without_return line)

-- a byte that a line may have: a tab, and a space to '~'
abbrev pub is_text : ℕ → Bool
is_text c = (c == 9) || not (nat_lt c 32 || nat_lt 126 c)

-- ---- words

-- a space or a tab
abbrev pub is_blank : ℕ → Bool
is_blank c = (c == 32) || (c == 9)

abbrev pub is_empty : {A : Type 0} → List A → Bool
is_empty [] = true
is_empty (x ∷ xs) = false

abbrev pub words : Word → List Word
words line = filter (λ w. not (is_empty w)) (pieces is_blank line)

-- whether two words are the same, and whether a word is among some
abbrev pub same : Word → Word → Bool
same = bytes_eq

abbrev pub is_among : Word → List Word → Bool
is_among w vs = list_any (λ v. same v w) vs
