-- How long numbers are.
use Rattle.std.proofs.Common.{◌≡◌, ℕ, ◌+◌, ◌/◌, ◌<◌, ◌≤◌, ◌^◌, length, decimal, arith}
use Rattle.std.proofs.lemmas.Fmt.{length-decimal-le}
use Rattle.itoa.proofs.Decimal.{length_pair}

pub most_digits : (n : ℕ) → n < 2 ^ 64 → length (decimal n) ≤ 20
most_digits n h = length-decimal-le 20 n (omega arith) (omega (arith, h)) h

-- two digits behind those that lead are few too
pub few_behind : (n : ℕ) → 100 ≤ n → n < 2 ^ 64 → length (decimal (n / 100)) + 2 ≤ 20
few_behind n lo hi = omega (arith, length_pair n lo hi, most_digits n hi)
