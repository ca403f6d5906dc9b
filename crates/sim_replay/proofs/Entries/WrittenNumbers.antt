-- Numbers as they are written are read as what they were.
--     number_written       of 64 bits, without a sign
--     literal_written      of 64 bits, with a sign
use Rattle.std.proofs.Common.{◌≡◌, refl, ap, ◌∙◌, ℕ, suc, ◌+◌, ◌-◌, ◌*◌, ◌/◌, ◌%◌, ◌^◌, ◌<◌, ◌≤◌, Bool, true, false, ◌==◌, if◌then◌else◌, nat_le, List, [], ◌∷◌, ◌++◌, length, decimal, ℤ, pos, Some, option_map, arith}
use Rattle.std.specs.Prelude.{negsuc, neg_ℤ}
use Rattle.std.specs.Fmt.{signed_decimal}
use Rattle.std.specs.Int.Signed.{le_z}
use Rattle.std.specs.List.{list_all}
use Rattle.std.proofs.lemmas.Bool.{and_parts, and_from, le-leb, leb-true, eqb-true}
use Rattle.std.proofs.lemmas.Int.{ints}
use Rattle.std.proofs.lemmas.Option.{none-some}
use Rattle.std.proofs.lemmas.Fmt.{decimal_by_steps, decimal_nonempty, length-decimal-le}
use Rattle.std.proofs.lemmas.List.Folds.{list_all-append}
use Rattle.sim_types.specs.Setups.{is_within}
use Rattle.sim_language.specs.Lines.{Word}
use Rattle.sim_language.specs.Numbers.{is_digit, number_after, number, signed, between, literal_within, least, greatest}

-- ---- digits

number_append : (n : ℕ) (ds : List ℕ) (c : ℕ) → number_after n (ds ++ c ∷ []) ≡ number_after n ds * 10 + (c - 48)
number_append n [] c = refl
number_append n (d ∷ ds) c = number_append (n * 10 + (d - 48)) ds c

digit_is : (n : ℕ) → n < 10 → is_digit (48 + n) ≡ true
digit_is n h = and_from (nat_le 48 (48 + n)) (nat_le (48 + n) 57) (le-leb 48 (48 + n) (omega arith)) (le-leb (48 + n) 57 (omega arith))

record Writes (n : ℕ) (ds : List ℕ) : Type 0 where
  digits : list_all is_digit ds ≡ true
  value : number_after 0 ds ≡ n

one_digit : (n : ℕ) → n < 10 → Writes n ((48 + n) ∷ [])
one_digit n h = record { digits = rw (digit_is n h) refl; value = omega arith }

more_digits : (n : ℕ) (ds : List ℕ) → 10 ≤ n → Writes (n / 10) ds → Writes n (ds ++ (48 + n % 10) ∷ [])
more_digits n ds h w = record {
  digits = list_all-append is_digit ds ((48 + n % 10) ∷ []) ∙ and_from _ _ w.digits (rw (digit_is (n % 10) (omega arith)) refl);
  value = number_append 0 ds (48 + n % 10) ∙ (let v = w.value in omega arith);
}

written_is : (n : ℕ) → n < 2 ^ 64 → Writes n (decimal n)
written_is n h = decimal_by_steps Writes one_digit more_digits n h

pub digits_written : (n : ℕ) → n < 2 ^ 64 → list_all is_digit (decimal n) ≡ true
digits_written n h = (written_is n h).digits

-- ---- numbers

pub number_written : (n : ℕ) → n < 2 ^ 63 + 1 → number 19 (decimal n) ≡ Some n
number_written n h =
    let w = written_is n (omega arith) in
    let some = le-leb 1 (length (decimal n)) (decimal_nonempty n (omega arith)) in
    let few = le-leb (length (decimal n)) 19 (length-decimal-le 19 n (omega arith) (omega arith) (omega arith)) in
    rw (and_from _ _ (and_from _ _ some few) w.digits, w.value) refl

-- a word of digits has no sign
unsigned : (w : Word) (n : ℕ) → list_all is_digit w ≡ true → number 19 w ≡ Some n → signed w ≡ Some (pos n)
unsigned [] n digits h = absurd (none-some n h)
unsigned (c ∷ cs) n digits h = by (c == 45) refl
  where
    no_sign : (d : ℕ) → is_digit d ≡ true → d ≡ 45 → ⊥
    no_sign d is e = let above = leb-true 48 d (and_parts (nat_le 48 d) (nat_le d 57) is).0 in omega arith

    by : (b : Bool) → (c == 45) ≡ b
        → (if b then option_map (λ m. neg_ℤ (pos m)) (number 19 cs) else option_map pos (number 19 (c ∷ cs))) ≡ Some (pos n)
    by true e = absurd (no_sign c (and_parts (is_digit c) (list_all is_digit cs) digits).0 (eqb-true c 45 e))
    by false e = ap (option_map pos) h

signed_written : (z : ℤ) → is_within least greatest z ≡ true → signed (signed_decimal z) ≡ Some z
signed_written (pos n) h =
    let small : n < 2 ^ 63 + 1 = below n (and_parts (le_z least (pos n)) (le_z (pos n) greatest) h).1 in
    unsigned (decimal n) n (digits_written n (omega arith)) (number_written n small)
  where
    below : (m : ℕ) → le_z (pos m) greatest ≡ true → m < 2 ^ 63 + 1
    below m e = grind (arith, ints)
signed_written (negsuc n) h =
    let small : suc n < 2 ^ 63 + 1 = below n (and_parts (le_z least (negsuc n)) (le_z (negsuc n) greatest) h).0 in
    rw (number_written (suc n) small) refl
  where
    below : (m : ℕ) → le_z least (negsuc m) ≡ true → suc m < 2 ^ 63 + 1
    below m e = grind (arith, ints)

-- ---- literals

pub literal_written : (low high z : ℤ) → is_within least greatest z ≡ true → is_within low high z ≡ true
    → literal_within low high (signed_decimal z) ≡ Some z
literal_written low high z small h = ap (between low high) (signed_written z small) ∙ (rw h refl)
