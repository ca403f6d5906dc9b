-- How often a call of an agenda compares two keys.
use Rattle.std.specs.Prelude.{ℕ, zero, suc, ◌+◌, ◌-◌, ◌*◌, ◌^◌, ◌≤◌, nat_le, if◌then◌else◌}

-- the greatest exponent up to a limit whose power of two is at most n, or 0
unfoldable pub exponent_within : ℕ → ℕ → ℕ
exponent_within n zero = zero
exponent_within n (suc limit) = if nat_le (2 ^ suc limit) n then suc limit else exponent_within n limit

-- with so many entries before the call: 4 d, where d is the greatest number with 2 ^ d ≤ 2 n + 1
unfoldable pub most_comparisons : ℕ → ℕ
most_comparisons n = 4 * exponent_within (2 * n + 1) (2 * n + 1)

-- at most one comparison for each level from the top to this place
pub record ComparesAtLevels (place old new : ℕ) : Type 0 where
  pub rises : old ≤ new
  pub levels : 2 ^ (new - old) ≤ place + 1
