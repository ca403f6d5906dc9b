-- Lines that are written one below the other, each with a line feed, are the lines of that text.
--     lines_ended      so it is for lines that have no line feed inside
--     lines_whole      the lines of a text have none
--     up_to_from       what stands in front of the first that passes a test, and what stands from there on
use Rattle.std.proofs.Common.{◌≡◌, refl, ap, ◌∙◌, ℕ, Bool, true, false, not, if◌then◌else◌, List, [], ◌∷◌, ◌++◌}
use Rattle.std.specs.Prelude.{flat_map}
use Rattle.std.specs.List.{list_any, list_all}
use Rattle.std.proofs.lemmas.Bool.{and_parts, and_from, or_parts, or_from, not-true}
use Rattle.std.proofs.lemmas.List.{append_assoc}
use Rattle.std.proofs.lemmas.List.Concat.{flat_map-cons}
use Rattle.sim_language.specs.Lines.{Word, onto_first, is_line_feed, lines, up_to}
use Rattle.sim_replay.specs.Sections.{with_line_feed}

abbrev pub is_whole : Word → Bool
is_whole line = not (list_any is_line_feed line)

-- ---- lines that are written

one_ended : (line : Word) (rest : List ℕ) → list_any is_line_feed line ≡ false → lines (line ++ 10 ∷ rest) ≡ line ∷ lines rest
one_ended [] rest h = refl
one_ended (c ∷ cs) rest h =
    let parts = or_parts (is_line_feed c) (list_any is_line_feed cs) h in
    rw (parts.0, one_ended cs rest parts.1) refl

pub lines_ended : (ls : List Word) → list_all is_whole ls ≡ true → lines (flat_map with_line_feed ls) ≡ ls
lines_ended [] h = refl
lines_ended (l ∷ ls) h =
    let parts = and_parts (is_whole l) (list_all is_whole ls) h in
    ap lines (flat_map-cons with_line_feed l ls ∙ append_assoc l (10 ∷ []) (flat_map with_line_feed ls))
    ∙ one_ended l (flat_map with_line_feed ls) (not-true (list_any is_line_feed l) parts.0) ∙ ap (λ more. l ∷ more) (lines_ended ls parts.1)

-- ---- the lines of a text

first_whole : (c : ℕ) (ps : List Word) → is_line_feed c ≡ false → list_all is_whole ps ≡ true → list_all is_whole (onto_first c ps) ≡ true
first_whole c [] e h = rw e refl
first_whole c (p ∷ ps) e h = rw e h

pub lines_whole : (text : List ℕ) → list_all is_whole (lines text) ≡ true
lines_whole [] = refl
lines_whole (c ∷ cs) = by (is_line_feed c) refl (lines_whole cs)
  where
    by : (b : Bool) → is_line_feed c ≡ b → list_all is_whole (lines cs) ≡ true
        → list_all is_whole (if b then [] ∷ lines cs else onto_first c (lines cs)) ≡ true
    by true e rest = rest
    by false e rest = first_whole c (lines cs) e rest

-- ---- up to the first that passes

module _ {A : Type 0} (test : A → Bool) where
  -- from the first that passes the test on
  abbrev pub from_first : List A → List A
  from_first [] = []
  from_first (x ∷ xs) = if test x then x ∷ xs else from_first xs

  pub up_to_from : (xs : List A) → up_to test xs ++ from_first xs ≡ xs
  up_to_from [] = refl
  up_to_from (x ∷ xs) = by (test x) (up_to_from xs)
    where
      by : (b : Bool) → up_to test xs ++ from_first xs ≡ xs → (if b then [] else x ∷ up_to test xs) ++ (if b then x ∷ xs else from_first xs) ≡ x ∷ xs
      by true rest = refl
      by false rest = ap (λ more. x ∷ more) rest

  pub none_up_to : (xs : List A) → list_any test (up_to test xs) ≡ false
  none_up_to [] = refl
  none_up_to (x ∷ xs) = by (test x) refl (none_up_to xs)
    where
      by : (b : Bool) → test x ≡ b → list_any test (up_to test xs) ≡ false → list_any test (if b then [] else x ∷ up_to test xs) ≡ false
      by true e rest = refl
      by false e rest = or_from (test x) _ e rest

  -- the first of them passes, if there is one
  abbrev pub FirstPasses : List A → Type 0
  FirstPasses [] = Unit {0}
  FirstPasses (x ∷ xs) = test x ≡ true

  pub first_passes : (xs : List A) → FirstPasses (from_first xs)
  first_passes [] = tt
  first_passes (x ∷ xs) = by (test x) refl (first_passes xs)
    where
      by : (b : Bool) → test x ≡ b → FirstPasses (from_first xs) → FirstPasses (if b then x ∷ xs else from_first xs)
      by true e rest = e
      by false e rest = rest

  pub all_up_to : (good : A → Bool) (xs : List A) → list_all good xs ≡ true → list_all good (up_to test xs) ≡ true
  all_up_to good [] h = refl
  all_up_to good (x ∷ xs) h =
      let parts = and_parts (good x) (list_all good xs) h in by (test x) (and_from (good x) _ parts.0 (all_up_to good xs parts.1))
    where
      by : (b : Bool) → list_all good (x ∷ up_to test xs) ≡ true → list_all good (if b then [] else x ∷ up_to test xs) ≡ true
      by true rest = refl
      by false rest = rest
