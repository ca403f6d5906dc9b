-- What code finds out about a word: that its bytes are those of a text, that a number is below a bound, where a name is.
use Rattle.std.proofs.Common.{◌≡◌, ◌+◌, ◌-◌, ℕ, ◌<◌, ◌≤◌, Bool, List, [], ◌∷◌, ◌++◌, take, drop, length, get_or, refl, sym, ap, ◌∙◌, arith, IsTrue, ◌↔◌, bytes_eq, None, position, not, codes}
use Rattle.std.specs.Prelude.{Result, Ok, Err, unwrap_or, option_and_then}
use Rattle.std.specs.List.{position_or_len}
use Rattle.std.specs.Result.{OkIff, result_ok}
use Rattle.std.proofs.Math.ListN.{drop_of_length-le}
use Rattle.std.proofs.Math.Seq.{take-append_seam}
use Rattle.std.proofs.lemmas.Bool.Decides.{nat_tests}
use Rattle.std.proofs.lemmas.List.{take-append-drop, drop_more, length-append}
use Rattle.std.proofs.lemmas.List.Sums.{prefix_len-le-length}
use Rattle.std.proofs.lemmas.Slice.Eq.{bytes_eq-Decides}
use Rattle.sim_trace_reader.specs.Readings.{below, with_digit, number_after, number, word_at, behind, named_in, arrival_in}

-- all but the last byte
pub front_of : (text : List ℕ) → take (length (text ++ 10 ∷ []) - 1) (text ++ 10 ∷ []) ≡ text
front_of text =
    let n : length (text ++ 10 ∷ []) - 1 ≡ length text = omega (arith, length-append text (10 ∷ [])) in
    ap (λ k. take k (text ++ 10 ∷ [])) n ∙ take-append_seam text (10 ∷ [])

last_fed : (bytes : List ℕ) → 1 ≤ length bytes → get_or bytes (length bytes - 1) 0 ≡ 10 → bytes ≡ take (length bytes - 1) bytes ++ 10 ∷ []
last_fed bytes some fed =
    let past : length bytes ≤ length bytes - 1 + 1 = omega arith in
    let end : drop (length bytes - 1) bytes ≡ 10 ∷ [] =
    drop_more bytes (length bytes - 1) 0 (omega arith) ∙ ap (λ c. c ∷ drop (length bytes - 1 + 1) bytes) fed
    ∙ ap (λ l. 10 ∷ l) (drop_of_length-le bytes past) in
    sym (take-append-drop (length bytes - 1) bytes) ∙ ap (λ l. take (length bytes - 1) bytes ++ l) end

pub fed_text : (bytes text : List ℕ) (r : Bool) → 1 ≤ length bytes → get_or bytes (length bytes - 1) 0 ≡ 10
    → r ≡ bytes_eq (take (length bytes - 1) bytes) text → IsTrue r ↔ (bytes ≡ text ++ 10 ∷ [])
fed_text bytes text r some fed compared =
    let d = bytes_eq-Decides (take (length bytes - 1) bytes) text in (
      λ t. last_fed bytes some fed ∙ ap (λ l. l ++ 10 ∷ []) (d.0 (sym compared ∙ t)),
      λ e. compared ∙ d.1 (ap (λ l. take (length l - 1) l) e ∙ front_of text),
    )

pub below_of : {E : Type 0} (r : Result ℕ E) (bound n : ℕ) → OkIff r (n < bound) n → result_ok r ≡ below bound n
below_of (Ok m) bound n h = let lt = h.0 in let e = h.1 in grind (arith, nat_tests)
below_of (Err x) bound n h = grind (arith, nat_tests)

pub place_or_len : {X : Type 0} (p : X → Bool) (xs : List X) → unwrap_or (position p xs) (length xs) ≡ position_or_len p xs
place_or_len p xs = let le = prefix_len-le-length (λ x. not (p x)) xs in grind (arith, nat_tests)

-- a byte that is no digit
pub no_number : (digits : List ℕ) (value i : ℕ) → i < length digits
    → number_after value (drop i digits) ≡ number digits → with_digit value (get_or digits i 0) ≡ None → None ≡ number digits
no_number digits value i inside so_far bad =
    sym (ap (option_and_then (λ m. number_after m (drop (i + 1) digits))) bad) ∙ sym (ap (number_after value) (drop_more digits i 0 inside)) ∙ so_far

pub named_arrive : (ports : List (List ℕ)) (bytes : List ℕ) → word_at 0 bytes ≡ codes "arrive" → named_in ports bytes ≡ arrival_in ports (behind 1 bytes)
named_arrive ports bytes e = rw e refl
