-- A sum over time grows by a number times the time for which it was so, and stays within its range.
use Rattle.std.proofs.Common.{◌≡◌, ◌≤◌, ◌≤ℤ◌, ◌*◌, ◌^◌, ℕ, ℤ, pos, ◌+ℤ◌, ◌-ℤ◌, ◌*ℤ◌, FitsSigned, to_z, of_z, w64, refl, sym, ap, ◌∙◌, arith}
use Rattle.std.specs.Prelude.{neg_ℤ}
use Rattle.std.specs.Int.{w128}
use Rattle.std.proofs.lemmas.Int.{to_z-of_z, ints}
use Rattle.std.proofs.Math.IntN.{negsuc, ℤ_ind, suc_ℤ-*ℤ, pred_ℤ-*ℤ, zero-*ℤ, +ℤ_one, -ℤ_one}
use Rattle.std.proofs.Math.Nat.{mul-le-mul_right}
use Rattle.sim_types.specs.Limits.{last_time}
use Rattle.sim_watch.specs.Watched.{IsSumWithin}

-- ---- products

more_times : (m k : ℤ) → (m +ℤ pos 1) *ℤ k ≡ (m *ℤ k) +ℤ k
more_times m k = ap (λ x. x *ℤ k) (+ℤ_one m) ∙ suc_ℤ-*ℤ m k

less_times : (m k : ℤ) → (m +ℤ neg_ℤ (pos 1)) *ℤ k ≡ (m *ℤ k) -ℤ k
less_times m k = ap (λ x. x *ℤ k) (-ℤ_one m) ∙ pred_ℤ-*ℤ m k

pairs_sum : (x y a b : ℤ) → (x +ℤ y) +ℤ (a +ℤ b) ≡ (x +ℤ a) +ℤ (y +ℤ b)
pairs_sum x y a b = omega (arith, ints)

pairs_less : (x y a b : ℤ) → (x +ℤ y) -ℤ (a +ℤ b) ≡ (x -ℤ a) +ℤ (y -ℤ b)
pairs_less x y a b = omega (arith, ints)

pub times_sum : (m a b : ℤ) → m *ℤ (a +ℤ b) ≡ (m *ℤ a) +ℤ (m *ℤ b)
times_sum m a b = ℤ_ind Holds (rw (zero-*ℤ (a +ℤ b), zero-*ℤ a, zero-*ℤ b) refl) up down m
  where
    Holds : ℤ → Type 0
    Holds k = k *ℤ (a +ℤ b) ≡ (k *ℤ a) +ℤ (k *ℤ b)

    up : (n : ℕ) → Holds (pos n) → Holds (pos n +ℤ pos 1)
    up n h = rw (more_times (pos n) (a +ℤ b), more_times (pos n) a, more_times (pos n) b, h) (pairs_sum (pos n *ℤ a) (pos n *ℤ b) a b)

    down : (n : ℕ) → Holds (neg_ℤ (pos n)) → Holds (neg_ℤ (pos n) +ℤ neg_ℤ (pos 1))
    down n h =
        let k : ℤ = neg_ℤ (pos n) in
        rw (less_times k (a +ℤ b), less_times k a, less_times k b, h) (pairs_less (k *ℤ a) (k *ℤ b) a b)

-- ---- the ranges of products

pub times_low : (number span : ℤ) → pos 0 ≤ℤ number → pos 0 ≤ℤ span → pos 0 ≤ℤ (number *ℤ span)
times_low (pos a) (pos b) h k = omega (arith, ints)
times_low (pos a) (negsuc b) h k = absurd (omega (arith, ints, k))
times_low (negsuc a) span h k = absurd (omega (arith, ints, h))

pub times_high : (number span most : ℤ) → pos 0 ≤ℤ number → number ≤ℤ most → pos 0 ≤ℤ span → (number *ℤ span) ≤ℤ (most *ℤ span)
times_high (pos a) (pos b) (pos m) h n k = let less : a * b ≤ m * b = mul-le-mul_right b (omega (arith, ints, n)) in omega (arith, ints, less)
times_high (pos a) (pos b) (negsuc m) h n k = absurd (omega (arith, ints, n))
times_high (pos a) (negsuc b) most h n k = absurd (omega (arith, ints, k))
times_high (negsuc a) span most h n k = absurd (omega (arith, ints, h))

times_last : (span : ℤ) → pos 0 ≤ℤ span → span ≤ℤ last_time → (pos (2 ^ 64) *ℤ span) ≤ℤ pos (2 ^ 126)
times_last (pos b) h k = omega (arith, ints, k)
times_last (negsuc b) h k = absurd (omega (arith, ints, h))

-- ---- a sum by now, of a number that was this since then

module _ (sum number since now wide : ℤ) (from_0 : pos 0 ≤ℤ since) (later : since ≤ℤ now) (to_last : now ≤ℤ last_time) (low : pos 0 ≤ℤ number)
    (high : number ≤ℤ pos (2 ^ 64)) (within : IsSumWithin since sum)
    (is : wide ≡ to_z w64 (of_z w64 (to_z w64 (of_z w64 now) -ℤ to_z w64 (of_z w64 since)))) where
  span_low : pos 0 ≤ℤ (now -ℤ since)
  span_low = omega (arith, ints, later)

  span_high : (now -ℤ since) ≤ℤ last_time
  span_high = omega (arith, ints, from_0, to_last)

  wide_is : wide ≡ now -ℤ since
  wide_is =
      let since_fits : FitsSigned w64 since = grind (arith, ints, from_0, later, to_last) in
      let now_fits : FitsSigned w64 now = grind (arith, ints, from_0, later, to_last) in
      let span_fits : FitsSigned w64 (now -ℤ since) = grind (arith, ints, from_0, later, to_last) in
      is ∙ rw (to_z-of_z w64 since since_fits, to_z-of_z w64 now now_fits) (to_z-of_z w64 (now -ℤ since) span_fits)

  product_low : pos 0 ≤ℤ (number *ℤ (now -ℤ since))
  product_low = times_low number (now -ℤ since) low span_low

  product_high : (number *ℤ (now -ℤ since)) ≤ℤ (pos (2 ^ 64) *ℤ (now -ℤ since))
  product_high = times_high number (now -ℤ since) (pos (2 ^ 64)) low high span_low

  product_most : (number *ℤ (now -ℤ since)) ≤ℤ pos (2 ^ 126)
  product_most = let last : (pos (2 ^ 64) *ℤ (now -ℤ since)) ≤ℤ pos (2 ^ 126) = times_last (now -ℤ since) span_low span_high in omega (arith, ints, product_high, last)

  both_high : ((pos (2 ^ 64) *ℤ since) +ℤ (pos (2 ^ 64) *ℤ (now -ℤ since))) ≡ pos (2 ^ 64) *ℤ now
  both_high = let all : since +ℤ (now -ℤ since) ≡ now = omega (arith, ints) in sym (times_sum (pos (2 ^ 64)) since (now -ℤ since)) ∙ ap (λ x. pos (2 ^ 64) *ℤ x) all

  -- the sum is within its range, and no number overflows
  pub total_within : IsSumWithin now (sum +ℤ (number *ℤ (now -ℤ since)))
  total_within =
      let sum_low : pos 0 ≤ℤ sum = within.low in
      let sum_high : sum ≤ℤ (pos (2 ^ 64) *ℤ since) = within.high in
      record { low = omega (arith, ints, sum_low, product_low); high = omega (arith, ints, sum_high, product_high, both_high) }

  sum_fits : FitsSigned w128 sum
  sum_fits =
      let sum_low : pos 0 ≤ℤ sum = within.low in
      let sum_high : sum ≤ℤ (pos (2 ^ 64) *ℤ since) = within.high in
      let last : (pos (2 ^ 64) *ℤ since) ≤ℤ pos (2 ^ 126) = times_last since from_0 (omega (arith, ints, later, to_last)) in
      grind (arith, ints, sum_low, sum_high, last)

  number_fits : FitsSigned w128 number
  number_fits = grind (arith, ints, low, high)

  span_fits : FitsSigned w128 (now -ℤ since)
  span_fits = grind (arith, ints, span_low, span_high)

  plain_product_fits : FitsSigned w128 (number *ℤ (now -ℤ since))
  plain_product_fits = grind (arith, ints, product_low, product_most)

  plain_total_fits : FitsSigned w128 (sum +ℤ (number *ℤ (now -ℤ since)))
  plain_total_fits =
      let total_low : pos 0 ≤ℤ (sum +ℤ (number *ℤ (now -ℤ since))) = total_within.low in
      let total_high : (sum +ℤ (number *ℤ (now -ℤ since))) ≤ℤ (pos (2 ^ 64) *ℤ now) = total_within.high in
      let last : (pos (2 ^ 64) *ℤ now) ≤ℤ pos (2 ^ 126) = times_last now (omega (arith, ints, from_0, later)) to_last in
      grind (arith, ints, total_low, total_high, last)

  pub product_fits : FitsSigned w128 (to_z w128 (of_z w128 number) *ℤ to_z w128 (of_z w128 wide))
  product_fits = rw (wide_is, to_z-of_z w128 number number_fits, to_z-of_z w128 (now -ℤ since) span_fits) plain_product_fits

  added_is : (to_z w128 (of_z w128 sum) +ℤ to_z w128 (of_z w128 (to_z w128 (of_z w128 number) *ℤ to_z w128 (of_z w128 wide))))
      ≡ sum +ℤ (number *ℤ (now -ℤ since))
  added_is =
      let product : ℤ = number *ℤ (now -ℤ since) in
      rw (wide_is, to_z-of_z w128 number number_fits, to_z-of_z w128 (now -ℤ since) span_fits, to_z-of_z w128 product plain_product_fits, to_z-of_z w128 sum sum_fits) refl

  pub total_fits : FitsSigned w128 (to_z w128 (of_z w128 sum) +ℤ to_z w128 (of_z w128 (to_z w128 (of_z w128 number) *ℤ to_z w128 (of_z w128 wide))))
  total_fits = rw added_is plain_total_fits

  pub total_is : to_z w128 (of_z w128 (to_z w128 (of_z w128 sum) +ℤ to_z w128 (of_z w128 (to_z w128 (of_z w128 number) *ℤ to_z w128 (of_z w128 wide)))))
      ≡ sum +ℤ (number *ℤ (now -ℤ since))
  total_is = ap (λ x. to_z w128 (of_z w128 x)) added_is ∙ to_z-of_z w128 (sum +ℤ (number *ℤ (now -ℤ since))) plain_total_fits

-- what the sum is, as it is stored
pub stored_sum : (sum number since now wide result : ℤ) → FitsSigned w128 sum → FitsSigned w128 wide → FitsSigned w64 since → FitsSigned w64 now
    → FitsSigned w128 result → wide ≡ number
    → result ≡ to_z w128 (of_z w128 sum) +ℤ (to_z w128 (of_z w128 wide) *ℤ (to_z w64 (of_z w64 now) -ℤ to_z w64 (of_z w64 since)))
    → to_z w128 (of_z w128 result) ≡ sum +ℤ (number *ℤ (now -ℤ since))
stored_sum sum number since now wide result f1 f2 f3 f4 f5 same is =
    to_z-of_z w128 result f5 ∙ is ∙ rw (to_z-of_z w128 sum f1, to_z-of_z w128 wide f2, to_z-of_z w64 now f4, to_z-of_z w64 since f3, same) refl

-- and that it is within its range
pub stored_within : (now result : ℤ) → FitsSigned w64 now → FitsSigned w128 result → IsSumWithin (to_z w64 (of_z w64 now)) result
    → IsSumWithin (to_z w64 (of_z w64 now)) (to_z w128 (of_z w128 result))
stored_within now result f g h = rw (to_z-of_z w128 result g) h
