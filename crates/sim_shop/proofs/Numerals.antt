-- The words that write numbers of 32 bits.
--     decimal_is_numeral      a number in decimal is one
--     all_are                 what holds of digits holds of each of its bytes
--     is_literal              it is a number in a range
use Rattle.std.proofs.Common.{◌≡◌, refl, ℕ, ◌+◌, ◌-◌, ◌*◌, ◌/◌, ◌%◌, ◌^◌, ◌<◌, ◌≤◌, Bool, true, false, not, ◌==◌, [], ◌∷◌, ◌++◌, length, pos, Some, is_none, nat_le, decimal, ap, ◌∙◌, arith}
use Rattle.std.specs.List.{list_all}
use Rattle.std.proofs.lemmas.Bool.{and_parts}
use Rattle.std.proofs.lemmas.Bool.Decides.{nat_tests}
use Rattle.std.proofs.lemmas.Fmt.{decimal_by_steps, decimal_nonempty, length-decimal-le}
use Rattle.sim_language.specs.Lines.{Word, is_line_feed, is_hash, is_text, is_blank}
use Rattle.sim_language.specs.Numbers.{is_digit, number, number_after, signed, literal, literal_within, looks_numeric}
use Rattle.sim_language_law.proofs.Processes.CodeOfKinds.{list_all_both}
use Rattle.sim_language_law.proofs.Setups.FittingSetup.{list_all_push}
use Rattle.sim_shop.proofs.Pieces.{is_one_piece, is_return}

pub record IsNumeral (w : Word) (n : ℕ) : Type 0 where
  pub digits : list_all is_digit w ≡ true
  pub some : 0 < length w
  pub few : length w ≤ 10
  pub value : number_after 0 w ≡ n
  pub small : n < 2 ^ 32

-- ---- numbers in decimal

number_after-push : (m d : ℕ) (w : Word) → number_after m (w ++ (48 + d) ∷ []) ≡ number_after m w * 10 + d
number_after-push m d [] = omega arith
number_after-push m d (c ∷ w) = number_after-push (m * 10 + (c - 48)) d w

abbrev Written : ℕ → Word → Type 0
Written n w = (list_all is_digit w ≡ true) × (number_after 0 w ≡ n)

a_digit : (d : ℕ) → d < 10 → is_digit (48 + d) ≡ true
a_digit d lt = grind (arith, nat_tests)

one_digit : (n : ℕ) → n < 10 → Written n ((48 + n) ∷ [])
one_digit n lt = (rw (a_digit n lt) refl, omega arith)

more_digits : (n : ℕ) (w : Word) → 10 ≤ n → Written (n / 10) w → Written n (w ++ (48 + n % 10) ∷ [])
more_digits n w le h = (list_all_push is_digit w (48 + n % 10) h.0 (a_digit (n % 10) (omega arith)), number_after-push 0 (n % 10) w ∙ value h.1)
  where
    value : number_after 0 w ≡ n / 10 → number_after 0 w * 10 + n % 10 ≡ n
    value e = omega arith

pub decimal_is_numeral : (n : ℕ) → n < 2 ^ 32 → IsNumeral (decimal n) n
decimal_is_numeral n small =
    let fits : n < 2 ^ 64 = omega arith in
    let written : Written n (decimal n) = decimal_by_steps Written one_digit more_digits n fits in
    record {
      digits = written.0;
      some = decimal_nonempty n fits;
      few = length-decimal-le 10 n (omega arith) (omega arith) fits;
      value = written.1;
      small = small;
    }

-- ---- its bytes

module _ (w : Word) (n : ℕ) (numeral : IsNumeral w n) where
  pub all_are : (test : ℕ → Bool) → ((c : ℕ) → is_digit c ≡ true → test c ≡ true) → list_all test w ≡ true
  all_are test each = list_all_both is_digit is_digit test w (λ c h _. each c h) numeral.digits numeral.digits

  pub is_text_throughout : list_all is_text w ≡ true
  is_text_throughout = all_are is_text (λ c h. grind (arith, nat_tests))

  pub has_no_line_feed : is_one_piece is_line_feed w ≡ true
  has_no_line_feed = all_are (λ c. not (is_line_feed c)) (λ c h. grind (arith, nat_tests))

  pub has_no_return : is_one_piece is_return w ≡ true
  has_no_return = all_are (λ c. not (is_return c)) (λ c h. grind (arith, nat_tests))

  pub has_no_hash : is_one_piece is_hash w ≡ true
  has_no_hash = all_are (λ c. not (is_hash c)) (λ c h. grind (arith, nat_tests))

  pub has_no_blank : is_one_piece is_blank w ≡ true
  has_no_blank = all_are (λ c. not (is_blank c)) (λ c h. grind (arith, nat_tests))

-- ---- the number that it is

not_minus : (c : ℕ) → is_digit c ≡ true → (c == 45) ≡ false
not_minus c h = grind (arith, nat_tests)

is_number_in : (w : Word) (n : ℕ) → IsNumeral w n → number 19 w ≡ Some n
is_number_in w n p =
    let some : nat_le 1 (length w) ≡ true = grind (arith, nat_tests, p.some) in
    let few : nat_le (length w) 19 ≡ true = grind (arith, nat_tests, p.few) in
    rw (some, few, p.digits) (ap Some p.value)

signed_is : (w : Word) (n : ℕ) → IsNumeral w n → signed w ≡ Some (pos n)
signed_is [] n p = absurd (omega (arith, p.some))
signed_is (c ∷ w) n p =
    let plain : (c == 45) ≡ false = not_minus c (and_parts (is_digit c) (list_all is_digit w) p.digits).0 in
    rw (plain, is_number_in (c ∷ w) n p) refl

pub is_literal : (w : Word) (n low high : ℕ) → IsNumeral w n → low ≤ n → n ≤ high
    → is_none (literal_within (pos low) (pos high) w) ≡ false
is_literal w n low high p h k =
    let above : nat_le low n ≡ true = grind (arith, nat_tests) in
    let below : nat_le n high ≡ true = grind (arith, nat_tests) in
    rw (signed_is w n p) (rw (above, below) refl)

pub is_any_literal : (w : Word) (n : ℕ) → IsNumeral w n → is_none (literal w) ≡ false
is_any_literal w n p =
    let below : nat_le n (2 ^ 63 - 1) ≡ true = grind (arith, nat_tests, p.small) in
    rw (signed_is w n p) (rw below refl)

pub begins_as_number : (w : Word) (n : ℕ) → IsNumeral w n → looks_numeric w ≡ true
begins_as_number [] n p = absurd (omega (arith, p.some))
begins_as_number (c ∷ w) n p =
    let digit : is_digit c ≡ true = (and_parts (is_digit c) (list_all is_digit w) p.digits).0 in
    rw (not_minus c digit, digit) refl
