-- A line of plain words with one space between each two has these words, and nothing is cut from it.
--     words_joined, cut_joined      so it is
--     text_joined, whole_joined     each byte is text, and none is a line feed
use Rattle.std.proofs.Common.{◌≡◌, refl, sym, ap, subst, ◌∙◌, ℕ, ◌+◌, ◌<◌, ◌≤◌, Bool, true, false, not, ◌&&◌, ◌||◌, ◌==◌, nat_le, nat_lt, List, [], ◌∷◌, ◌++◌, length, filter, arith}
use Rattle.std.specs.List.{join_with_byte, list_any, list_all}
use Rattle.std.proofs.lemmas.Bool.{false≢true, false_from_ne_true, and_parts, and_from, or_from, not_from_false, leb-true, ltb-true, eqb-true, le-ltb, or_parts}
use Rattle.std.proofs.lemmas.List.{length-append}
use Rattle.std.proofs.lemmas.List.Folds.{list_all-append}
use Rattle.sim_language.specs.Lines.{Word, pieces, is_line_feed, up_to, without_return, is_hash, cut, is_text, is_blank, is_empty, words}
use Rattle.sim_replay.proofs.Texts.EndedLines.{is_whole}

-- ---- bytes

-- a byte of a word that is written: behind '#', and no more than '~'
abbrev pub is_plain : ℕ → Bool
is_plain c = nat_lt 35 c && nat_le c 126

-- a byte of a line of such words
abbrev is_written : ℕ → Bool
is_written c = (c == 32) || is_plain c

record Written (c : ℕ) : Type 0 where
  feed : is_line_feed c ≡ false
  hash : is_hash c ≡ false
  return : (c == 13) ≡ false
  text : is_text c ≡ true

or_true : (b : Bool) → (b || true) ≡ true
or_true true = refl
or_true false = refl

not_equal : (c d : ℕ) → (c ≡ d → ⊥) → (c == d) ≡ false
not_equal c d differ = false_from_ne_true (c == d) (λ e. differ (eqb-true c d e))

plain_above : (c : ℕ) → is_plain c ≡ true → (35 < c) × (c ≤ 126)
plain_above c h = let parts = and_parts (nat_lt 35 c) (nat_le c 126) h in (ltb-true 35 c parts.0, leb-true c 126 parts.1)

plain_blank : (c : ℕ) → is_plain c ≡ true → is_blank c ≡ false
plain_blank c h =
    let above = plain_above c h in
    or_from (c == 32) (c == 9) (not_equal c 32 (λ e. omega (arith, above.0))) (not_equal c 9 (λ e. omega (arith, above.0)))

plain_written : (c : ℕ) → is_plain c ≡ true → Written c
plain_written c h = let above = plain_above c h in record {
  feed = not_equal c 10 (λ e. omega (arith, above.0));
  hash = not_equal c 35 (λ e. omega (arith, above.0));
  return = not_equal c 13 (λ e. omega (arith, above.0));
  text = rw (le-ltb c 32 (omega (arith, above.0)), le-ltb 126 c above.1) (or_true (c == 9));
}

byte_written : (c : ℕ) → is_written c ≡ true → Written c
byte_written c h = by (c == 32) refl h
  where
    by : (b : Bool) → (c == 32) ≡ b → (b || is_plain c) ≡ true → Written c
    by true e some = subst Written (sym (eqb-true c 32 e)) (record { feed = refl; hash = refl; return = refl; text = refl })
    by false e some = plain_written c some

-- ---- lists of bytes

-- what passes one test passes the other
pub all_more : {X : Type 0} (p q : X → Bool) → ((x : X) → p x ≡ true → q x ≡ true) → (xs : List X) → list_all p xs ≡ true → list_all q xs ≡ true
all_more p q more [] h = refl
all_more p q more (x ∷ xs) h = let parts = and_parts (p x) (list_all p xs) h in and_from (q x) _ (more x parts.0) (all_more p q more xs parts.1)

pub none_pass : {X : Type 0} (p q : X → Bool) → ((x : X) → p x ≡ true → q x ≡ false) → (xs : List X) → list_all p xs ≡ true → list_any q xs ≡ false
none_pass p q fails [] h = refl
none_pass p q fails (x ∷ xs) h = let parts = and_parts (p x) (list_all p xs) h in or_from (q x) _ (fails x parts.0) (none_pass p q fails xs parts.1)

all_here : (test : ℕ → Bool) (l : List ℕ) → list_any test l ≡ false → up_to test l ≡ l
all_here test [] h = refl
all_here test (c ∷ cs) h = let parts = or_parts (test c) (list_any test cs) h in rw (parts.0, all_here test cs parts.1) refl

no_return : (l : Word) → list_any (λ c. c == 13) l ≡ false → without_return l ≡ l
no_return [] h = refl
no_return (c ∷ []) h = rw (or_parts (c == 13) false h).0 refl
no_return (c ∷ d ∷ cs) h = ap (λ more. c ∷ more) (no_return (d ∷ cs) (or_parts (c == 13) _ h).1)

-- ---- words

-- a word as it is written: not empty, and of plain bytes
abbrev pub is_plain_word : Word → Bool
is_plain_word w = not (is_empty w) && list_all is_plain w

one_piece : (c : ℕ) (w : Word) → list_all is_plain (c ∷ w) ≡ true → pieces is_blank (c ∷ w) ≡ (c ∷ w) ∷ []
one_piece c [] h = rw (plain_blank c (and_parts (is_plain c) true h).0) refl
one_piece c (d ∷ w) h =
    let parts = and_parts (is_plain c) (list_all is_plain (d ∷ w)) h in
    rw (plain_blank c parts.0, one_piece d w parts.1) refl

piece_then : (w rest : Word) → list_all is_plain w ≡ true → pieces is_blank (w ++ 32 ∷ rest) ≡ w ∷ pieces is_blank rest
piece_then [] rest h = refl
piece_then (c ∷ w) rest h =
    let parts = and_parts (is_plain c) (list_all is_plain w) h in
    rw (plain_blank c parts.0, piece_then w rest parts.1) refl

last_piece : (w : Word) → is_plain_word w ≡ true → pieces is_blank w ≡ w ∷ []
last_piece [] h = absurd (false≢true h)
last_piece (c ∷ w) h = one_piece c w h

pieces_joined : (w : Word) (ws : List Word) → list_all is_plain_word (w ∷ ws) ≡ true → pieces is_blank (join_with_byte 32 (w ∷ ws)) ≡ w ∷ ws
pieces_joined w [] h = last_piece w (and_parts (is_plain_word w) true h).0
pieces_joined w (v ∷ ws) h =
    let parts = and_parts (is_plain_word w) (list_all is_plain_word (v ∷ ws)) h in
    piece_then w (join_with_byte 32 (v ∷ ws)) (and_parts (not (is_empty w)) (list_all is_plain w) parts.0).1
    ∙ ap (λ more. w ∷ more) (pieces_joined v ws parts.1)

none_empty : (ws : List Word) → list_all is_plain_word ws ≡ true → filter (λ w. not (is_empty w)) ws ≡ ws
none_empty [] h = refl
none_empty (w ∷ ws) h =
    let parts = and_parts (is_plain_word w) (list_all is_plain_word ws) h in
    rw ((and_parts (not (is_empty w)) (list_all is_plain w) parts.0).0, none_empty ws parts.1) refl

pub words_joined : (w : Word) (ws : List Word) → list_all is_plain_word (w ∷ ws) ≡ true → words (join_with_byte 32 (w ∷ ws)) ≡ w ∷ ws
words_joined w ws h = ap (filter (λ v. not (is_empty v))) (pieces_joined w ws h) ∙ none_empty (w ∷ ws) h

-- ---- the line

word_written : (w : Word) → is_plain_word w ≡ true → list_all is_written w ≡ true
word_written w h = all_more is_plain is_written (λ c p. rw p (or_true (c == 32))) w (and_parts (not (is_empty w)) (list_all is_plain w) h).1

all_written : (w : Word) (ws : List Word) → list_all is_plain_word (w ∷ ws) ≡ true → list_all is_written (join_with_byte 32 (w ∷ ws)) ≡ true
all_written w [] h = word_written w (and_parts (is_plain_word w) true h).0
all_written w (v ∷ ws) h =
    let parts = and_parts (is_plain_word w) (list_all is_plain_word (v ∷ ws)) h in
    list_all-append is_written w (32 ∷ join_with_byte 32 (v ∷ ws)) ∙ and_from _ _ (word_written w parts.0) (all_written v ws parts.1)

module _ (w : Word) (ws : List Word) (plain : list_all is_plain_word (w ∷ ws) ≡ true) where
  abbrev joined : Word
  joined = join_with_byte 32 (w ∷ ws)

  pub whole_joined : is_whole (join_with_byte 32 (w ∷ ws)) ≡ true
  whole_joined =
      not_from_false (list_any is_line_feed joined)
      (none_pass is_written is_line_feed (λ c h. (byte_written c h).feed) joined (all_written w ws plain))

  pub text_joined : list_all is_text (join_with_byte 32 (w ∷ ws)) ≡ true
  text_joined = all_more is_written is_text (λ c h. (byte_written c h).text) joined (all_written w ws plain)

  pub cut_joined : cut (join_with_byte 32 (w ∷ ws)) ≡ join_with_byte 32 (w ∷ ws)
  cut_joined =
      ap (up_to is_hash) {x = without_return joined} {y = joined}
      (no_return joined (none_pass is_written (λ c. c == 13) (λ c h. (byte_written c h).return) joined (all_written w ws plain)))
      ∙ all_here is_hash joined (none_pass is_written is_hash (λ c h. (byte_written c h).hash) joined (all_written w ws plain))

-- ---- its length

pub length_joined : (n : ℕ) (w v : Word) (ws : List Word) → length w ≤ n
    → length (join_with_byte 32 (w ∷ v ∷ ws)) ≤ n + 1 + length (join_with_byte 32 (v ∷ ws))
length_joined n w v ws h = omega (arith, length-append w (32 ∷ join_with_byte 32 (v ∷ ws)))
