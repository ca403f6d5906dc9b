-- Words where a number is wanted: what they stand for lies in the range.
use Rattle.std.specs.Prelude.{◌≡◌, refl, ℕ, Bool, true, false, if◌then◌else◌, nat_le, ℤ, pos, nat_abs, Option, Some, None, is_none, unwrap_or, codes}
use Rattle.std.specs.Int.Signed.{le_z, lt_z}
use Rattle.std.proofs.Common.{arith}
use Rattle.std.proofs.lemmas.Int.{ints}
use Rattle.std.proofs.lemmas.Bool.{true≢false, and_parts}
use Rattle.sim_language.specs.Lines.{Word, same}
use Rattle.sim_language.specs.Numbers.{signed, between, literal_within, literal, least, greatest}
use Rattle.sim_language.specs.Shapes.{capacity}
use Rattle.sim_language.specs.Statements.{literal_of}
use Rattle.sim_language.specs.Reads.{capacity_of}
use Rattle.sim_types.specs.Setups.{is_within}

pub le_z_trans : (a b c : ℤ) → le_z a b ≡ true → le_z b c ≡ true → le_z a c ≡ true
le_z_trans a b c p q = grind (arith, ints)

le_z_refl : (a : ℤ) → le_z a a ≡ true
le_z_refl a = grind (arith, ints)

-- a number of the range
within : (low high : ℤ) (o : Option ℤ) (d : ℤ) → is_none (between low high o) ≡ false → is_within low high (unwrap_or (between low high o) d) ≡ true
within low high None d h = absurd (true≢false h)
within low high (Some z) d h = by (is_within low high z) refl h
  where
    by : (b : Bool) → is_within low high z ≡ b → is_none (if b then Some z else None) ≡ false
        → is_within low high (unwrap_or (if b then Some z else None) d) ≡ true
    by true e some = e
    by false e some = absurd (true≢false some)

-- a number of the range is one of 64 bits
as_literal : (low high : ℤ) (o : Option ℤ) → le_z least low ≡ true → le_z high greatest ≡ true
    → is_none (between low high o) ≡ false → is_within low high (unwrap_or (between least greatest o) (pos 0)) ≡ true
as_literal low high None l g h = absurd (true≢false h)
as_literal low high (Some z) l g h = by (is_within low high z) refl h
  where
    by : (b : Bool) → is_within low high z ≡ b → is_none (if b then Some z else None) ≡ false
        → is_within low high (unwrap_or (if is_within least greatest z then Some z else None) (pos 0)) ≡ true
    by true e some =
        let parts = and_parts (le_z low z) (le_z z high) e in
        rw (le_z_trans least low z l parts.0, le_z_trans z high greatest parts.1 g) e
    by false e some = absurd (true≢false some)

pub literal_in : (low high : ℤ) (w : Word) → le_z least low ≡ true → le_z high greatest ≡ true
    → is_none (literal_within low high w) ≡ false → is_within low high (literal_of w) ≡ true
literal_in low high w l g h = as_literal low high (signed w) l g h

pub capacity_in : (most : ℤ) (w : Word) → le_z (pos 1) most ≡ true → is_none (capacity most w) ≡ false → is_within (pos 1) most (capacity_of most w) ≡ true
capacity_in most w l h = by (same w (codes "inf")) h
  where
    by : (b : Bool) → is_none (if b then Some most else literal_within (pos 1) most w) ≡ false
        → is_within (pos 1) most (unwrap_or (if b then Some most else literal_within (pos 1) most w) (pos 0)) ≡ true
    by true some = rw (l, le_z_refl most) refl
    by false some = within (pos 1) most (signed w) (pos 0) some

-- the greatest capacity is no less than a capacity, whatever stands where no capacity does
pub capacity_most : (most d : ℤ) (w : Word) → le_z (pos 1) most ≡ true → is_none (capacity most w) ≡ false → unwrap_or (capacity most w) d ≡ capacity_of most w
capacity_most most d w l h = by (capacity most w) h
  where
    by : (o : Option ℤ) → is_none o ≡ false → unwrap_or o d ≡ unwrap_or o (pos 0)
    by None some = absurd (true≢false some)
    by (Some z) some = refl

pub natural_in : (m : ℕ) (z : ℤ) → is_within (pos 0) (pos m) z ≡ true → nat_le (nat_abs z) m ≡ true
natural_in m z h = by z (and_parts (le_z (pos 0) z) (le_z z (pos m)) h)
  where
    by : (y : ℤ) → (le_z (pos 0) y ≡ true) × (le_z y (pos m) ≡ true) → nat_le (nat_abs y) m ≡ true
    by y parts = grind (arith, ints, parts.0, parts.1)

-- such a word is a literal
literal_there : (low high : ℤ) (o : Option ℤ) → le_z least low ≡ true → le_z high greatest ≡ true
    → is_none (between low high o) ≡ false → between least greatest o ≡ Some (unwrap_or (between least greatest o) (pos 0))
literal_there low high None l g h = absurd (true≢false h)
literal_there low high (Some z) l g h = by (is_within low high z) refl h
  where
    by : (b : Bool) → is_within low high z ≡ b → is_none (if b then Some z else None) ≡ false
        → (if is_within least greatest z then Some z else None)
        ≡ Some (unwrap_or (if is_within least greatest z then Some z else None) (pos 0))
    by true e some =
        let parts = and_parts (le_z low z) (le_z z high) e in
        rw (le_z_trans least low z l parts.0, le_z_trans z high greatest parts.1 g) refl
    by false e some = absurd (true≢false some)

pub literal_is : (low high : ℤ) (w : Word) → le_z least low ≡ true → le_z high greatest ≡ true
    → is_none (literal_within low high w) ≡ false → literal w ≡ Some (literal_of w)
literal_is low high w l g h = literal_there low high (signed w) l g h

pub pos_nat_abs : (z : ℤ) → le_z (pos 0) z ≡ true → pos (nat_abs z) ≡ z
pos_nat_abs z h = grind (arith, ints)

pub not_below : (m n : ℕ) → lt_z (pos n) (pos m) ≡ false → nat_le m n ≡ true
not_below m n h = grind (arith, ints)
