-- The lines of the shop in which a number stands.
--     crews_said      the capacity of the crew
--     count_said      how many fillers or machines are spawned
use Rattle.std.proofs.Common.{◌≡◌, refl, ℕ, ◌-◌, ◌^◌, ◌<◌, ◌≤◌, false, List, [], ◌∷◌, ◌++◌, length, codes, nat_lt, ap, ◌∙◌, arith}
use Rattle.std.proofs.lemmas.Bool.Decides.{nat_tests}
use Rattle.sim_language.specs.declared.form.Form.TheVariants as form
use Rattle.sim_language.specs.declared.form.Section.TheVariants.{Plain}
use Rattle.sim_language.specs.declared.shape.Role.TheVariants.{Declares}
use Rattle.sim_language.specs.Lines.{Word, is_blank, cut, words}
use Rattle.sim_language.specs.Shapes.{any_literal, users}
use Rattle.sim_language.specs.AnywhereInText.{WholeText, whole_text}
use Rattle.sim_language.specs.Sayings.{TextLine, Setting, Says, saying, line_of}
use Rattle.sim_shop.specs.Shop.{shop_lines}
use Rattle.sim_shop.proofs.Pieces.{last_piece, cut_nothing}
use Rattle.sim_shop.proofs.Numerals.{IsNumeral, is_text_throughout, has_no_return, has_no_hash, has_no_blank, is_literal, is_any_literal, begins_as_number}

abbrev pub crews_text : Word → Word
crews_text w = codes "preemptive crew " ++ w

abbrev pub count_text : Word → Word
count_text w = codes "repeat " ++ w

-- ---- what they say

-- what the shop's lines take from the whole text is the same for all numbers
abbrev pub shop_whole : WholeText
shop_whole = whole_text (shop_lines (codes "1") (codes "1"))

abbrev pub in_shop : Setting
in_shop = record { whole = shop_whole; section = Plain; posters = 0 }

abbrev pub crews_line : Word → TextLine
crews_line w = record {
  words = codes "preemptive" ∷ codes "crew" ∷ w ∷ [];
  saying = Says form.Preemptive (record { role = Declares; word = codes "crew" } ∷ record { role = users; word = w } ∷ []);
}

abbrev pub count_line : Word → TextLine
count_line w = record {
  words = codes "repeat" ∷ w ∷ [];
  saying = Says form.Repeat (record { role = any_literal; word = w } ∷ []);
}

-- ---- that they say it

one_word : (w : Word) (n : ℕ) → IsNumeral w n → words w ≡ w ∷ []
one_word [] n p = absurd (omega (arith, p.some))
one_word (c ∷ w) n p = rw (last_piece is_blank c w (has_no_blank (c ∷ w) n p)) refl

-- a line of which nothing is cut, with these words
said_uncut : (l : Word) (ws : List Word) → cut l ≡ l → words l ≡ ws → line_of in_shop l ≡ record { words = ws; saying = saying in_shop l ws }
said_uncut l ws h e =
    ap (λ c. record { words = words c; saying = saying in_shop c (words c) }) h
    ∙ ap (λ vs. record { words = vs; saying = saying in_shop l vs }) e

module _ (w : Word) (n : ℕ) (p : IsNumeral w n) where
  crews_cut : cut (crews_text w) ≡ crews_text w
  crews_cut = cut_nothing (crews_text w) (has_no_return w n p) (has_no_hash w n p)

  count_cut : cut (count_text w) ≡ count_text w
  count_cut = cut_nothing (count_text w) (has_no_return w n p) (has_no_hash w n p)

  crews_words : words (crews_text w) ≡ (crews_line w).words
  crews_words = ap (λ more. codes "preemptive" ∷ codes "crew" ∷ more) (one_word w n p)

  count_words : words (count_text w) ≡ (count_line w).words
  count_words = ap (λ more. codes "repeat" ∷ more) (one_word w n p)

  pub crews_cut_to : words (cut (crews_text w)) ≡ (crews_line w).words
  crews_cut_to = ap words crews_cut ∙ crews_words

  pub count_cut_to : words (cut (count_text w)) ≡ (count_line w).words
  count_cut_to = ap words count_cut ∙ count_words

  pub crews_said : 0 < n → line_of in_shop (crews_text w) ≡ crews_line w
  crews_said some =
      let short : nat_lt 200 (length (crews_text w)) ≡ false = grind (arith, nat_tests, p.few) in
      let few : n ≤ 2 ^ 32 - 1 = omega (arith, p.small) in
      said_uncut (crews_text w) (crews_line w).words crews_cut crews_words
      ∙ rw (is_text_throughout w n p, short, is_literal w n 1 (2 ^ 32 - 1) p (omega arith) few) refl

  pub count_said : line_of in_shop (count_text w) ≡ count_line w
  count_said =
      let short : nat_lt 200 (length (count_text w)) ≡ false = grind (arith, nat_tests, p.few) in
      said_uncut (count_text w) (count_line w).words count_cut count_words
      ∙ rw (is_text_throughout w n p, short, begins_as_number w n p) (rw (is_any_literal w n p) refl)
