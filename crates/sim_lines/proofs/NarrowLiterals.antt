-- A literal in a range of 64 bits, by the literal of 64 bits.
use Rattle.std.proofs.Common.{◌≡◌, refl, Bool, true, false, ◌&&◌, ℤ, FitsSigned, w64, Option, Some, None, arith}
use Rattle.std.proofs.lemmas.Int.{ints}
use Rattle.std.specs.Int.Signed.{le_z}
use Rattle.sim_language.specs.Lines.{Word}
use Rattle.sim_language.specs.Numbers.{between, literal, literal_within, signed, least, greatest}

-- a number that needs more than 64 bits is in no range of 64 bits
out_of_range : (low high n : ℤ) → FitsSigned w64 low → FitsSigned w64 high → (le_z least n && le_z n greatest) ≡ false → (le_z low n && le_z n high) ≡ false
out_of_range low high n l h e = grind (arith, ints, l, h, e)

pub narrowed : (low high : ℤ) (w : Word) → FitsSigned w64 low → FitsSigned w64 high → literal_within low high w ≡ between low high (literal w)
narrowed low high w l h = by (signed w)
  where
    by : (o : Option ℤ) → between low high o ≡ between low high (between least greatest o)
    by None = refl
    by (Some n) = within (le_z least n && le_z n greatest) refl
      where
        within : (b : Bool) → (le_z least n && le_z n greatest) ≡ b → between low high (Some n) ≡ between low high (between least greatest (Some n))
        within true e = rw e refl
        within false e = rw (e, out_of_range low high n l h e) refl
