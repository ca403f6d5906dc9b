-- Signed numbers of 64 bits that pass through the code, and what a refusal says of them.
use Rattle.std.proofs.Common.{◌≡◌, ℤ, pos, ◌+ℤ◌, ◌<ℤ◌, ◌≤ℤ◌, ◌^◌, true, false, int_lt, Ok, Err, arith}
use Rattle.std.proofs.lemmas.Int.{ints}

pub is_below : (a b : ℤ) → a <ℤ b → int_lt a b ≡ true
is_below a b h = grind (arith, ints)

pub not_below : (a b : ℤ) → (a <ℤ b → ⊥) → int_lt a b ≡ false
not_below a b h = grind (arith, ints)

-- what succeeded was not refused
pub no_error : {T E : Type 0} (t : T) (e : E) → Ok t ≡ Err e → ⊥
no_error t e h = cc

-- a delay that is neither negative nor leads beyond the last time
pub not_late : (time delay : ℤ) → ((pos 0 ≤ℤ delay) × (pos (2 ^ 62) <ℤ (time +ℤ delay)) → ⊥) → int_lt delay (pos 0) ≡ false →
    int_lt (pos (2 ^ 62)) (time +ℤ delay) ≡ false
not_late time delay h k = not_below (pos (2 ^ 62)) (time +ℤ delay) (λ late. h (not_negative delay k, late))
  where
    not_negative : (delay : ℤ) → int_lt delay (pos 0) ≡ false → pos 0 ≤ℤ delay
    not_negative delay k = grind (arith, ints)

pub late_is : (time delay : ℤ) → (pos 0 ≤ℤ delay) × (pos (2 ^ 62) <ℤ (time +ℤ delay)) →
    (int_lt delay (pos 0) ≡ false) × (int_lt (pos (2 ^ 62)) (time +ℤ delay) ≡ true)
late_is time delay h = (not_negative delay h.0, is_below (pos (2 ^ 62)) (time +ℤ delay) h.1)
  where
    not_negative : (delay : ℤ) → pos 0 ≤ℤ delay → int_lt delay (pos 0) ≡ false
    not_negative delay k = grind (arith, ints)
