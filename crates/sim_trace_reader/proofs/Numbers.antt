-- Numbers, read from the digits that they are printed as.
--     number_back, byte_back, signed_back     the same number again
--     word_decimal, word_signed               its digits have no space
use Rattle.std.proofs.Common.{◌≡◌, ◌+◌, ◌*◌, ◌/◌, ◌%◌, ◌^◌, ℕ, suc, ◌<◌, ◌≤◌, Bool, true, false, List, [], ◌∷◌, ◌++◌, length, Some, None, refl, ap, ◌∙◌, arith, ◌==◌, decimal, ℤ, pos, negsuc, neg_ℤ}
use Rattle.std.specs.Prelude.{Option, option_and_then, option_map}
use Rattle.std.specs.Fmt.{signed_decimal}
use Rattle.std.proofs.lemmas.Bool.Decides.{nat_tests}
use Rattle.std.proofs.lemmas.Fmt.{decimal_by_steps, decimal_nonempty}
use Rattle.std.proofs.lemmas.Int.{ints}
use Rattle.std.proofs.lemmas.List.Folds.{list_any-append}
use Rattle.sim_trace_reader.specs.LineTexts.{IsSigned64}
use Rattle.sim_trace_reader.specs.Readings.{is_space, below, with_digit, number_after, number, byte, whole, with_64_bits, signed}
use Rattle.sim_trace_reader.proofs.Cuts.{IsWord}

pub below_within : (bound n : ℕ) → n < bound → below bound n ≡ Some n
below_within bound n lt = grind (arith, nat_tests)

-- ---- digits

digit_step : (v d : ℕ) → d < 10 → v * 10 + d < 2 ^ 64 → with_digit v (48 + d) ≡ Some (v * 10 + d)
digit_step v d digit fits = grind (arith, nat_tests)

number_append : (n : ℕ) (xs ys : List ℕ) → number_after n (xs ++ ys) ≡ option_and_then (λ m. number_after m ys) (number_after n xs)
number_append n [] ys = refl
number_append n (c ∷ xs) ys = by (with_digit n c) (λ m. number_append m xs ys)
  where
    by : (o : Option ℕ) → ((m : ℕ) → number_after m (xs ++ ys) ≡ option_and_then (λ k. number_after k ys) (number_after m xs))
        → option_and_then (λ m. number_after m (xs ++ ys)) o ≡ option_and_then (λ m. number_after m ys) (option_and_then (λ m. number_after m xs) o)
    by None later = refl
    by (Some m) later = later m

one_digit : (n : ℕ) → n < 10 → n < 2 ^ 64 → number ((48 + n) ∷ []) ≡ Some n
one_digit n digit fits =
    let e : 0 * 10 + n ≡ n = omega arith in
    ap (option_and_then (λ m. number_after m [])) (digit_step 0 n digit (omega arith)) ∙ ap (λ k. Some k) e

more_digits : (n : ℕ) (ds : List ℕ) → 10 ≤ n → (n / 10 < 2 ^ 64 → number ds ≡ Some (n / 10)) → n < 2 ^ 64
    → number (ds ++ ((48 + n % 10) ∷ [])) ≡ Some n
more_digits n ds ten before fits =
    let e : n / 10 * 10 + n % 10 ≡ n = omega arith in
    number_append 0 ds ((48 + n % 10) ∷ [])
    ∙ ap (option_and_then (λ m. number_after m ((48 + n % 10) ∷ []))) (before (omega arith))
    ∙ ap (option_and_then (λ m. number_after m [])) (digit_step (n / 10) (n % 10) (omega arith) (omega arith))
    ∙ ap (λ k. Some k) e

pub number_back : (n : ℕ) → n < 2 ^ 64 → number (decimal n) ≡ Some n
number_back n fits = decimal_by_steps (λ k ds. k < 2 ^ 64 → number ds ≡ Some k) one_digit more_digits n fits fits

pub byte_back : (n : ℕ) → n < 2 ^ 8 → byte (decimal n) ≡ Some n
byte_back n fits = ap (option_and_then (below (2 ^ 8))) (number_back n (omega arith)) ∙ below_within (2 ^ 8) n fits

word_of_digit : (d : ℕ) → IsWord ((48 + d) ∷ [])
word_of_digit d = grind (arith, nat_tests)

pub word_decimal : (n : ℕ) → n < 2 ^ 64 → IsWord (decimal n)
word_decimal =
    decimal_by_steps (λ k ds. IsWord ds) (λ k digit. word_of_digit k)
    (λ k ds ten before. list_any-append is_space ds ((48 + k % 10) ∷ []) ∙ rw (before, word_of_digit (k % 10)) refl)

-- ---- signs

whole_plain : (w : List ℕ) (n : ℕ) → 0 < length w → number w ≡ Some n → whole w ≡ Some (pos n)
whole_plain [] n some e = absurd (omega arith)
whole_plain (c ∷ cs) n some e = by (c == 45) refl
  where
    by : (b : Bool) → (c == 45) ≡ b → whole (c ∷ cs) ≡ Some (pos n)
    by true minus = absurd (
        let is : c ≡ 45 = grind (arith, nat_tests) in
        let none : number (c ∷ cs) ≡ None = rw is refl in
        cc)
    by false plain = rw plain (ap (option_map (λ k. pos k)) e)

pub signed_back : (z : ℤ) → IsSigned64 z → signed (signed_decimal z) ≡ Some z
signed_back (pos n) fits =
    let lt : n < 2 ^ 63 = omega (arith, ints, fits) in
    ap (option_and_then with_64_bits) (whole_plain (decimal n) n (decimal_nonempty n (omega arith)) (number_back n (omega arith)))
    ∙ within lt
  where
    within : n < 2 ^ 63 → with_64_bits (pos n) ≡ Some (pos n)
    within lt = grind (arith, nat_tests)
signed_back (negsuc n) fits =
    let lt : n < 2 ^ 63 = omega (arith, ints, fits) in
    ap (λ o. option_and_then with_64_bits (option_map (λ k. neg_ℤ (pos k)) o)) (number_back (suc n) (omega arith)) ∙ within lt
  where
    within : n < 2 ^ 63 → with_64_bits (negsuc n) ≡ Some (negsuc n)
    within lt = grind (arith, nat_tests)

pub word_signed : (z : ℤ) → IsSigned64 z → IsWord (signed_decimal z)
word_signed (pos n) fits = let lt : n < 2 ^ 63 = omega (arith, ints, fits) in word_decimal n (omega arith)
word_signed (negsuc n) fits = let lt : n < 2 ^ 63 = omega (arith, ints, fits) in word_decimal (suc n) (omega arith)
