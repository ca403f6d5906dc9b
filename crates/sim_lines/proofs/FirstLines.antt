-- The first line of a text.
--     first_at_feed, first_is_last     the first line ends at the first line feed, or with the text
use Rattle.std.proofs.Common.{◌≡◌, ℕ, suc, ◌<◌, ◌+◌, ◌-◌, List, [], ◌∷◌, length, take, drop, sym, ap, ◌∙◌, arith, Some, None}
use Rattle.std.specs.List.{position}
use Rattle.std.proofs.Math.Seq.{drop-length}
use Rattle.std.proofs.lemmas.List.Quantifiers.{position-Some}
use Rattle.sim_language.specs.Lines.{lines, is_line_feed}
use Rattle.sim_words.proofs.Fronts.{none_is_far, take_rest}
use Rattle.sim_words.proofs.Pieces.{pieces-at, pieces-none}

pub first_at_feed : (text : List ℕ) (at : ℕ) → position is_line_feed text ≡ Some at
    → lines text ≡ take at text ∷ lines (take (length text - (at + 1)) (drop (at + 1) text))
first_at_feed text at found =
    let h = position-Some is_line_feed text at 0 found in
    let one : suc at ≡ at + 1 = omega arith in
    pieces-at is_line_feed text at h.0 h.1 h.2 ∙ ap (λ k. take at text ∷ lines (drop k text)) one ∙ ap (λ r. take at text ∷ lines r) (sym (take_rest (at + 1) text))

pub first_is_last : (text : List ℕ) → position is_line_feed text ≡ None → 0 < length text
    → lines text ≡ text ∷ lines (take (length text - length text) (drop (length text) text))
first_is_last [] none some = absurd (omega arith)
first_is_last (x ∷ xs) none some =
    pieces-none is_line_feed x xs (none_is_far is_line_feed (x ∷ xs) none) ∙ ap (λ r. (x ∷ xs) ∷ lines r) (sym (take_rest (length (x ∷ xs)) (x ∷ xs) ∙ drop-length (x ∷ xs)))
