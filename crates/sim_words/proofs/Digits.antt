-- Eighteen digits and one more fit 64 bits.
use Rattle.std.proofs.Common.{ℕ, ◌<◌, ◌≤◌, ◌+◌, ◌*◌, ◌^◌, arith}
use Rattle.std.proofs.Math.Nat.{pow-le-pow_right}

pub room_for_ten : (value at n most : ℕ) → value < 10 ^ at → at < n → n ≤ most → most ≤ 19 → value * 10 + 9 < 2 ^ 64
room_for_ten value at n most small lt le few =
    let some : 0 < 10 = omega arith in
    let below : at ≤ 18 = omega arith in
    let power : 10 ^ at ≤ 10 ^ 18 = pow-le-pow_right {n = 10} some {i = at} {j = 18} below in
    omega arith
