-- Numbers whose digits are at hand for those that have two more behind them.
use Rattle.std.specs.Prelude.{◌≡◌, ℕ, ◌*◌, ◌<◌, ◌≤◌, ◌^◌, List, decimal, take}

-- the first of these digits are those of the number, and two more behind them make another number of 64 bits
pub record HasDigits (number count : ℕ) (digits : List ℕ) : Type 0 where
  pub leads : 100 * number < 2 ^ 64
  pub few : count ≤ 20
  pub first : take count digits ≡ decimal number
