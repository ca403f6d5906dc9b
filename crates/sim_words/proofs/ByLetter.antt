-- What begins with a letter is looked for among those words alone that begin with it.
--     among_common    a word of the language, by its letter
--     common_form     the form that it begins, by its letter
use Rattle.std.proofs.Common.{◌≡◌, refl, sym, ap, ◌∙◌, ℕ, zero, suc, ◌<◌, ◌==◌, Bool, true, false, ◌||◌, if◌then◌else◌, List, [], ◌∷◌, map, length, get_or, Bor, Some, None, is_some, arith}
use Rattle.std.specs.Prelude.{cond}
use Rattle.std.specs.List.{list_all, list_any, range_with_len}
use Rattle.std.proofs.lemmas.Bool.{true≢false, and_parts}
use Rattle.std.proofs.lemmas.List.FromFn.{get_or-map-range_with_len}
use Rattle.sim_language.specs.declared.form.Form.{Form}
use Rattle.sim_language.specs.Lines.{Word, same, is_among}
use Rattle.sim_language.specs.Names.{common_words}
use Rattle.sim_language.specs.Forms.{common_first_words, form_at}
use Rattle.sim_words.specs.Letters.{letter, begins_at, words_at, row_of, rows_at}
use Rattle.sim_words.proofs.SameWords.{same_is, same_swapped}

-- ---- one letter

itself : (k : ℕ) → (k == k) ≡ true
itself k = grind arith

module _ (w : Word) (k : ℕ) (at : letter w ≡ Some k) where
  -- a word that is this one begins so too
  begins_so : (v : Word) → same v w ≡ true → begins_at k v ≡ true
  begins_so v is = rw (same_is v w is, at) (itself k)

  its_words : (vs : List Word) → is_among w vs ≡ is_among w (words_at k vs)
  its_words [] = refl
  its_words (v ∷ vs) = by (begins_at k v) (same v w) refl refl (its_words vs)
    where
      by : (b s : Bool) → begins_at k v ≡ b → same v w ≡ s → is_among w vs ≡ is_among w (words_at k vs)
          → (s || is_among w vs) ≡ is_among w (cond b (v ∷ words_at k vs) (words_at k vs))
      by true s e f rest = rw f (ap (λ r. s || r) rest)
      by false false e f rest = rest
      by false true e f rest = absurd (true≢false (sym (begins_so v f) ∙ e))

  its_rows : (rows : List (Word × Form)) → form_at w rows ≡ form_at w (rows_at k rows)
  its_rows [] = refl
  its_rows (row ∷ rows) = by (begins_at k row.0) (same w row.0) refl refl (its_rows rows)
    where
      by : (b s : Bool) → begins_at k row.0 ≡ b → same w row.0 ≡ s → form_at w rows ≡ form_at w (rows_at k rows)
          → (if s then Some row.1 else form_at w rows) ≡ form_at w (cond b (row ∷ rows_at k rows) (rows_at k rows))
      by true s e f rest = rw f (ap (λ r. if s then Some row.1 else r) rest)
      by false false e f rest = rest
      by false true e f rest = absurd (true≢false (sym (rw (← same_is w row.0 f) (rw at (itself k))) ∙ e))

-- ---- no letter

module _ (w : Word) (at : letter w ≡ None) where
  not_so : (v : Word) → is_some (letter v) ≡ true → same v w ≡ false
  not_so v some = by (same v w) refl
    where
      by : (s : Bool) → same v w ≡ s → s ≡ false
      by true e = absurd (true≢false (sym some ∙ ap (λ u. is_some (letter u)) (same_is v w e) ∙ ap is_some at))
      by false e = refl

  no_words : (vs : List Word) → list_all (λ v. is_some (letter v)) vs ≡ true → is_among w vs ≡ false
  no_words [] all = refl
  no_words (v ∷ vs) all =
      let both = and_parts (is_some (letter v)) (list_all (λ u. is_some (letter u)) vs) all in
      rw (not_so v both.0) (no_words vs both.1)

  not_so_row : (v : Word) → is_some (letter v) ≡ true → same w v ≡ false
  not_so_row v some = same_swapped w v ∙ not_so v some

  no_rows : (rows : List (Word × Form)) → list_all (λ row. is_some (letter row.0)) rows ≡ true → form_at w rows ≡ None
  no_rows [] all = refl
  no_rows (row ∷ rows) all =
      let both = and_parts (is_some (letter row.0)) (list_all (λ r. is_some (letter r.0)) rows) all in
      rw (not_so_row row.0 both.0) (no_rows rows both.1)

-- ---- a table of all letters

pub row_at : {A : Type 0} (table : List (Bor (List A))) (place : ℕ) (row : Bor (List A)) → place < length table → row ≡ get_or table place row
    → row.now ≡ row_of table place
unfolding row_of
row_at [] place row below at = absurd (omega (arith, below))
row_at (first ∷ table) zero row below at = ap (λ r. r.now) at
row_at (first ∷ table) (suc place) row below at = row_at table place row (omega (arith, below)) at

module _ {A B : Type 0} (shown : A → B) where
  row_shown : (table : List (Bor (List A))) (place : ℕ) → map shown (row_of table place) ≡ get_or (map (λ row. map shown row.now) table) place []
  unfolding row_of
  row_shown [] place = refl
  row_shown (row ∷ table) zero = refl
  row_shown (row ∷ table) (suc place) = row_shown table place

  -- a table that shows at each place what is its has it at one
  pub row_is : (its : ℕ → List B) (table : List (Bor (List A))) (place : ℕ) → place < 26
      → map (λ row. map shown row.now) table ≡ map its (range_with_len 0 26) → map shown (row_of table place) ≡ its place
  row_is its table place below all =
      row_shown table place ∙ ap (λ lists. get_or lists place []) all ∙ get_or-map-range_with_len its 0 26 place place [] below (omega arith)

-- ---- the words of the language

among_lent : (w : Word) (lent : List (Bor Word)) → list_any (λ v. same v.now w) lent ≡ is_among w (map (λ v. v.now) lent)
among_lent w [] = refl
among_lent w (v ∷ lent) = ap (λ found. same v.now w || found) (among_lent w lent)

pub among_common : (w : Word) (k : ℕ) (its : List (Bor Word)) → Some k ≡ letter w → map (λ v. v.now) its ≡ words_at k common_words
    → list_any (λ v. same v.now w) its ≡ is_among w common_words
among_common w k its at is = among_lent w its ∙ ap (is_among w) is ∙ sym (its_words w k (sym at) common_words)

pub none_common : (w : Word) → None ≡ letter w → false ≡ is_among w common_words
none_common w at = sym (no_words w (sym at) common_words refl)

pub common_form : (w : Word) (k : ℕ) (its : List (Word × Form)) → Some k ≡ letter w → its ≡ rows_at k common_first_words
    → form_at w its ≡ form_at w common_first_words
common_form w k its at is = ap (form_at w) is ∙ sym (its_rows w k (sym at) common_first_words)

pub no_common_form : (w : Word) → None ≡ letter w → None ≡ form_at w common_first_words
no_common_form w at = sym (no_rows w (sym at) common_first_words refl)
