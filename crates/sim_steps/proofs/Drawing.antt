-- The offset of a drawn number in its range.
use Rattle.std.proofs.Common.{◌≡◌, ℕ, ◌+◌, ◌<◌, ◌≤◌, ◌%◌, ◌^◌, sym, arith}
use Rattle.std.proofs.Math.Nat.{mod-eq_of_lt}

-- where the range has all 64 bits, the word is the offset
pub whole_word : (word width : ℕ) → word < 2 ^ 64 → 2 ^ 64 ≤ width + 1 → word ≡ word % (width + 1)
whole_word word width h k = sym (mod-eq_of_lt (omega (arith, h, k)))

pub rest_below : (word width : ℕ) → word % (width + 1) ≤ width
rest_below word width = omega arith
