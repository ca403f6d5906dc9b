-- Signed numbers of 64 bits that pass through the code are the numbers of the machine.
use Rattle.std.proofs.Common.{◌≡◌, ℤ, pos, ◌+ℤ◌, ◌≤ℤ◌, ◌^◌, w64, FitsSigned, to_z, of_z, subst, sym, arith}
use Rattle.sim_happen_model.specs.Sound.{IsTime}
use Rattle.std.proofs.lemmas.Int.{to_z-of_z, ints}

pub sum_kept : (a b : ℤ) → FitsSigned w64 a → FitsSigned w64 b → FitsSigned w64 (a +ℤ b) →
    to_z w64 (of_z w64 (to_z w64 (of_z w64 a) +ℤ to_z w64 (of_z w64 b))) ≡ a +ℤ b
sum_kept a b p q r = rw (to_z-of_z w64 a p, to_z-of_z w64 b q) (to_z-of_z w64 (a +ℤ b) r)

-- a time and a delay, both not negative, whose sum is at most the last time
pub time_fits : (a b : ℤ) → pos 0 ≤ℤ a → pos 0 ≤ℤ b → (a +ℤ b) ≤ℤ pos (2 ^ 62) → FitsSigned w64 (a +ℤ b)
time_fits a b p q r = grind (arith, ints)

-- their sum is a time of a run
pub time_after : (a b t : ℤ) → t ≡ a +ℤ b → pos 0 ≤ℤ a → pos 0 ≤ℤ b → (a +ℤ b) ≤ℤ pos (2 ^ 62) → IsTime t
time_after a b t is p q r = subst IsTime (sym is) (record { low = grind (arith, ints); high = r })
