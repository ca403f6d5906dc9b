-- A text has no more lines than bytes.
use Rattle.std.proofs.Common.{◌≡◌, refl, ap, ℕ, suc, ◌+◌, ◌≤◌, Bool, true, false, if◌then◌else◌, List, [], ◌∷◌, length, arith}
use Rattle.sim_language.specs.Lines.{Word, cut, words, is_line_feed, lines, onto_first, pieces}
use Rattle.sim_language.specs.Sayings.{Setting, lines_from, setting_behind}

length-onto_first : (c : ℕ) (ps : List Word) (n : ℕ) → length ps ≤ n → length (onto_first c ps) ≤ n + 1
length-onto_first c [] n h = omega arith
length-onto_first c (p ∷ ps) n h = omega arith

length-pieces : (ends : ℕ → Bool) (text : List ℕ) → length (pieces ends text) ≤ length text
length-pieces ends [] = omega arith
length-pieces ends (c ∷ cs) = by (ends c) (length-pieces ends cs)
  where
    by : (b : Bool) → length (pieces ends cs) ≤ length cs → length (if b then [] ∷ pieces ends cs else onto_first c (pieces ends cs)) ≤ length (c ∷ cs)
    by true h = omega arith
    by false h = omega (arith, length-onto_first c (pieces ends cs) (length cs) h)

length-lines_from : (s : Setting) (ls : List Word) → length (lines_from s ls) ≡ length ls
length-lines_from s [] = refl
length-lines_from s (l ∷ ls) = ap suc (length-lines_from (setting_behind (words (cut l)) s) ls)

pub few_lines : (s : Setting) (text : List ℕ) → length (lines_from s (lines text)) ≤ length text
few_lines s text = omega (arith, length-lines_from s (lines text), length-pieces is_line_feed text)
