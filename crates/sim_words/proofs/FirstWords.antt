-- The first word of a line, by the places where it begins and where the first blank behind it stands.
--     no_word          a line of blanks has no words
--     word_to_blank    the word ends at a blank
--     word_to_end      the word ends with the line
use Rattle.std.proofs.Common.{◌≡◌, ◌+◌, ◌-◌, ℕ, zero, suc, ◌<◌, ◌≤◌, Bool, true, false, List, [], ◌∷◌, take, drop, get_or, length, length-drop, position, Some, None, not, refl, sym, ap, ◌∙◌, arith}
use Rattle.std.specs.Prelude.{filter}
use Rattle.std.specs.List.{position_or_len}
use Rattle.std.proofs.Math.Seq.{drop-length}
use Rattle.std.proofs.lemmas.Bool.{true≢false}
use Rattle.std.proofs.lemmas.List.{get_or-drop, length-take-le}
use Rattle.std.proofs.lemmas.List.Quantifiers.{position-Some}
use Rattle.sim_language.specs.Lines.{Word, is_blank, is_empty, pieces, words}
use Rattle.sim_words.proofs.Pieces.{pieces-at, pieces-none}
use Rattle.sim_words.proofs.Fronts.{none_is_far, take_rest}

from_not : (b : Bool) → not b ≡ false → b ≡ true
from_not true e = refl
from_not false e = absurd (true≢false e)

to_not : (b : Bool) → not b ≡ true → b ≡ false
to_not true e = absurd (true≢false (sym e))
to_not false e = refl

-- ---- blanks in front
no_word_far : (line : Word) → length line ≤ position_or_len (λ c. not (is_blank c)) line → words line ≡ []
no_word_far [] far = refl
no_word_far (c ∷ cs) far = by (is_blank c) refl (no_word_far cs)
  where
    by : (b : Bool) → is_blank c ≡ b → (length cs ≤ position_or_len (λ d. not (is_blank d)) cs → words cs ≡ []) → words (c ∷ cs) ≡ []
    by true e rest = rw e (rest (omega (arith, rw e at far)))
    by false e rest = absurd (omega (arith, rw e at far))

pub no_word : (line : Word) → position (λ c. not (is_blank c)) line ≡ None → words line ≡ []
no_word line none = no_word_far line (none_is_far (λ c. not (is_blank c)) line none)

skip_blanks : (line : Word) (start : ℕ) → ((k : ℕ) → k < start → is_blank (get_or line k 0) ≡ true) → words line ≡ words (drop start line)
skip_blanks line zero before = refl
skip_blanks [] (suc start) before = refl
skip_blanks (c ∷ cs) (suc start) before = rw (before 0 (omega arith)) (skip_blanks cs start (λ k p. before (suc k) (omega arith)))

-- ---- the first word
first_is_no_blank : (word : Word) (end : ℕ) → is_blank (get_or word 0 0) ≡ false → position is_blank word ≡ Some end → 0 < end
first_is_no_blank word zero first found = absurd (true≢false (sym (position-Some is_blank word 0 0 found).1 ∙ first))
first_is_no_blank word (suc end) first found = omega arith

kept : (word : Word) (rest : List Word) → 0 < length word → filter (λ w. not (is_empty w)) (word ∷ rest) ≡ word ∷ filter (λ w. not (is_empty w)) rest
kept [] rest some = absurd (omega arith)
kept (c ∷ cs) rest some = refl

words_to_blank : (word : Word) (end : ℕ) → is_blank (get_or word 0 0) ≡ false → position is_blank word ≡ Some end
    → words word ≡ take end word ∷ words (drop (end + 1) word)
words_to_blank word end first found =
    let h = position-Some is_blank word end 0 found in
    let some : 0 < end = first_is_no_blank word end first found in
    let long : length (take end word) ≡ end = length-take-le end word (omega (arith, h.0)) in
    let one : suc end ≡ end + 1 = omega arith in
    ap (filter (λ w. not (is_empty w))) (pieces-at is_blank word end h.0 h.1 h.2)
    ∙ kept (take end word) (pieces is_blank (drop (suc end) word)) (omega arith)
    ∙ ap (λ n. take end word ∷ words (drop n word)) one

words_to_end : (word : Word) → 0 < length word → position is_blank word ≡ None → words word ≡ word ∷ []
words_to_end [] some none = absurd (omega arith)
words_to_end (c ∷ cs) some none = ap (filter (λ w. not (is_empty w))) (pieces-none is_blank c cs (none_is_far is_blank (c ∷ cs) none))

first_behind : (line : Word) (start : ℕ) → get_or (drop start line) 0 0 ≡ get_or line start 0
first_behind line start = let none : start + 0 ≡ start = omega arith in get_or-drop start line 0 0 ∙ ap (λ k. get_or line k 0) none

-- where a word begins
begun : (line word : Word) (start : ℕ) → position (λ c. not (is_blank c)) line ≡ Some start → word ≡ take (length line - start) (drop start line)
    → (words line ≡ words word) × (is_blank (get_or word 0 0) ≡ false) × (0 < length word)
begun line word start found is =
    let h = position-Some (λ c. not (is_blank c)) line start 0 found in
    let rest : word ≡ drop start line = is ∙ take_rest start line in (
      skip_blanks line start (λ k p. from_not (is_blank (get_or line k 0)) (h.2 k p)) ∙ ap words (sym rest),
      rw rest (ap is_blank (first_behind line start)) ∙ to_not (is_blank (get_or line start 0)) h.1,
      rw rest (rw length-drop (omega (arith, h.0))),
    )

pub word_to_blank : (line word : Word) (start end : ℕ) → position (λ c. not (is_blank c)) line ≡ Some start
    → word ≡ take (length line - start) (drop start line)
    → position is_blank word ≡ Some end → words line ≡ take end word ∷ words (take (length word - (end + 1)) (drop (end + 1) word))
word_to_blank line word start end found is at =
    let b = begun line word start found is in
    b.0 ∙ words_to_blank word end b.1 at ∙ ap (λ l. take end word ∷ words l) (sym (take_rest (end + 1) word))

pub word_to_end : (line word : Word) (start : ℕ) → position (λ c. not (is_blank c)) line ≡ Some start → word ≡ take (length line - start) (drop start line)
    → position is_blank word ≡ None → words line ≡ word ∷ words (take (length word - length word) (drop (length word) word))
word_to_end line word start found is none =
    let b = begun line word start found is in
    b.0 ∙ words_to_end word b.2 none ∙ ap (λ l. word ∷ words l) (sym (take_rest (length word) word ∙ drop-length word))
