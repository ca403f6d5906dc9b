-- The bits that say which variables are numbers.
use Rattle.std.proofs.Common.{◌≡◌, ◌≢◌, ℕ, ◌+◌, ◌-◌, ◌*◌, ◌%◌, ◌^◌, ◌<◌, ◌≤◌, ◌⊎◌, inl, inr, Bool, true, false, List, refl, ◌∙◌, arith, w64}
use Rattle.std.specs.Prelude.{slice_index_or, replicate, if◌then◌else◌, bit_or}
use Rattle.std.specs.Int.{bit_at}
use Rattle.std.proofs.lemmas.Nat.Bits.{bit_at-zero, bit_at_set_same, bit_at_set_other, bit_at_ones}
use Rattle.std.proofs.lemmas.List.{get_or-replicate}
use Rattle.std.proofs.Math.Nat.{eq-or-lt_of_le}
use Rattle.sim_types.specs.declared.setup.Class.{Class}
use Rattle.sim_types.specs.declared.setup.Class.TheVariants as class
use Rattle.sim_machine.specs.Tellings.{is_class}
use Rattle.sim_script.specs.Kept.{MarksNumbers}

abbrev number_at : List Class → ℕ → Bool
number_at cs i = is_class (slice_index_or cs i class.Number) class.Number

-- the first n variables are marked, and no other bit is set
pub record MarksThemAlone (n bits : ℕ) (cs : List Class) : Type 0 where
  pub marked : MarksNumbers n bits cs
  pub rest : (i : ℕ) → n ≤ i → bit_at bits i ≡ 0

-- no variable is marked yet
pub none_marked : (cs : List Class) → MarksThemAlone 0 0 cs
none_marked cs = record { marked = λ i lt. absurd (omega (arith, lt)); rest = λ i le. bit_at-zero i }

-- where all variables are numbers, all bits mark the first
pub all_marked : (n : ℕ) (cs : List Class) → n ≤ 64 → cs ≡ replicate 64 class.Number → MarksNumbers n (2 ^ 64 - 1) cs
all_marked n cs few all i lt =
    let within : i < 64 = omega (arith, few, lt) in
    rw (all, get_or-replicate 64 i class.Number class.Number within) (bit_at_ones 64 i within)

module _ (n bits : ℕ) (cs : List Class) (within : n < 64) (h : MarksThemAlone n bits cs) where
  -- one variable more: a number, whose bit is set
  pub number_marked : slice_index_or cs n class.Number ≡ class.Number → MarksThemAlone (n + 1) (bit_or bits (1 * 2 ^ n % 2 ^ 64)) cs
  number_marked number =
      record {
        marked = λ i lt. by i (eq-or-lt_of_le {n = i} {m = n} (omega (arith, lt)));
        rest = λ i le. bit_at_set_other w64 bits n within i (λ e. omega (arith, e, le)) ∙ h.rest i (omega (arith, le));
      }
    where
      by : (i : ℕ) → (i ≡ n) ⊎ (i < n) → bit_at (bit_or bits (1 * 2 ^ n % 2 ^ 64)) i ≡ (if number_at cs i then 1 else 0)
      by i (inl e) = rw (e, number) (bit_at_set_same w64 bits n within)
      by i (inr lt) = bit_at_set_other w64 bits n within i (λ e. omega (arith, e, lt)) ∙ h.marked i lt

  -- or another
  pub other_passed : number_at cs n ≡ false → MarksThemAlone (n + 1) bits cs
  other_passed other = record { marked = λ i lt. by i (eq-or-lt_of_le {n = i} {m = n} (omega (arith, lt))); rest = λ i le. h.rest i (omega (arith, le)) }
    where
      by : (i : ℕ) → (i ≡ n) ⊎ (i < n) → bit_at bits i ≡ (if number_at cs i then 1 else 0)
      by i (inl e) = rw (e, other) (h.rest n (omega arith))
      by i (inr lt) = h.marked i lt

-- ---- what a bit says

pub marks_true : (b : Bool) (bit : ℕ) → bit ≡ (if b then 1 else 0) → bit ≡ 1 → b ≡ true
marks_true true bit is one = refl
marks_true false bit is one = absurd (omega (arith, is, one))

pub marks_false : (b : Bool) (bit : ℕ) → bit ≡ (if b then 1 else 0) → bit ≢ 1 → b ≡ false
marks_false true bit is other = absurd (other is)
marks_false false bit is other = refl

pub is_no_number : (c : Class) → c ≢ class.Number → is_class c class.Number ≡ false
is_no_number class.Number other = absurd (other refl)
is_no_number class.Event other = refl
is_no_number class.Cond other = refl
is_no_number class.Proc other = refl
is_no_number class.Request other = refl
is_no_number class.Move other = refl
