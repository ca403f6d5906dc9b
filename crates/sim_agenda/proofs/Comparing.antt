-- How many comparisons there are on the levels of a heap.
use Rattle.std.proofs.Common.{◌≡◌, ℕ, zero, suc, ◌+◌, ◌-◌, ◌*◌, ◌^◌, ◌<◌, ◌≤◌, List, [], ◌∷◌, length, Bool, true, false, refl, ap, ◌∙◌, inl, inr, arith, pow-suc, pow_mono, mul-le-mul, leb-false, leb-true}
use Rattle.std.specs.Prelude.{nat_le, if◌then◌else◌}
use Rattle.std.proofs.lemmas.Bool.{cases_eq}
use Rattle.sim_agenda.specs.Comparisons.{exponent_within, most_comparisons, ComparesAtLevels}
use Rattle.sim_agenda.specs.Heaps.{parent}

pub power_doubled : (k : ℕ) → 2 ^ (k + 1) ≡ 2 ^ k * 2
power_doubled k = let e : k + 1 ≡ suc k = omega arith in ap (λ m. 2 ^ m) e ∙ pow-suc 2 k

pub below_power : (k : ℕ) → k < 2 ^ k
below_power zero = omega arith
below_power (suc k) = omega (arith, below_power k, pow-suc 2 k)

if_one : (b : Bool) (k m n : ℕ) → (b ≡ false → k ≤ n) → k ≤ m → k ≤ (if b then m else n)
if_one true k m n h le = le
if_one false k m n h le = h refl

-- no exponent whose power is at most n is greater
pub exponent_most : (n limit k : ℕ) → k ≤ limit → 2 ^ k ≤ n → k ≤ exponent_within n limit
unfolding exponent_within
exponent_most n zero k few within = few
exponent_most n (suc limit) k few within =
    if_one (nat_le (2 ^ suc limit) n) k (suc limit) (exponent_within n limit)
    (λ no. exponent_most n limit k (elim (cases_eq k (suc limit)) [
      | inl at ↦ absurd (omega (arith, leb-false (2 ^ suc limit) n no, ap (λ m. 2 ^ m) at))
      | inr off ↦ omega arith
    ]) within) few

pub levels_within : (n k : ℕ) → 2 ^ k ≤ 2 * n + 1 → 4 * k ≤ most_comparisons n
unfolding most_comparisons
levels_within n k within =
    omega (arith, exponent_most (2 * n + 1) (2 * n + 1) k (omega (arith, below_power k)) within)

pub no_comparison : (place old : ℕ) → ComparesAtLevels place old old
no_comparison place old =
    let none : old - old ≡ 0 = omega arith in
    record { rises = omega arith; levels = rw none (omega arith) }

-- fewer comparisons than places
pub levels_few_enough : (place old now : ℕ) → ComparesAtLevels place old now → now ≤ old + place
levels_few_enough place old now h = omega (arith, h.rises, h.levels, below_power (now - old))

if_reached : (b : Bool) (m k n : ℕ) → (b ≡ true → 2 ^ m ≤ n) → 2 ^ k ≤ n → 2 ^ (if b then m else k) ≤ n
if_reached true m k n h le = h refl
if_reached false m k n h le = le

-- the power of the exponent is within
exponent_reached : (n limit : ℕ) → 1 ≤ n → 2 ^ exponent_within n limit ≤ n
unfolding exponent_within
exponent_reached n zero some = omega arith
exponent_reached n (suc limit) some =
    if_reached (nat_le (2 ^ suc limit) n) (suc limit) (exponent_within n limit) n (leb-true (2 ^ suc limit) n) (exponent_reached n limit some)

-- no fewer for more entries
most_rises : (m n : ℕ) → m ≤ n → most_comparisons m ≤ most_comparisons n
unfolding most_comparisons
most_rises m n few =
    let k : ℕ = exponent_within (2 * m + 1) (2 * m + 1) in
    levels_within n k (omega (arith, exponent_reached (2 * m + 1) (2 * m + 1) (omega arith)))

-- some where there is an entry
most_some : (n : ℕ) → 1 ≤ n → 4 ≤ most_comparisons n
most_some n some = levels_within n 1 (omega arith)

-- more where there are two
most_more : (n : ℕ) → 2 ≤ n → 8 ≤ most_comparisons n
most_more n some = levels_within n 2 (omega arith)

-- at most one comparison, and none where there is nothing to compare with
pub once_only : {X : Type 0} (xs : List X) (n old mid : ℕ) → length xs ≤ n → mid ≤ old + 1 → (xs ≡ [] → mid ≡ old)
    → 2 * mid ≤ 2 * old + most_comparisons n
once_only [] n old mid few once none = omega (arith, none refl)
once_only (x ∷ xs) n old mid few once none = omega (arith, most_some n (omega (arith, few)))

-- at most one comparison, and none where there is nothing to compare with; then one for each level
pub once_and_up : {X : Type 0} (xs : List X) (n place old mid new : ℕ) → length xs + place ≤ n → mid ≤ old + 1 → (xs ≡ [] → mid ≡ old)
    → ComparesAtLevels place mid new → 2 * new ≤ 2 * old + most_comparisons n
once_and_up [] n place old mid new few once none up =
    omega (arith, none refl, up.rises, levels_within n (new - mid) (omega (arith, up.levels, few)))
once_and_up (x ∷ xs) n place old mid new few once none up =
    omega (arith, up.rises, levels_within n (new - mid + 1) (omega (arith, power_doubled (new - mid), up.levels, few)))

-- and then half of what is allowed
pub once_and_half : {X : Type 0} (xs : List X) (m n old mid new : ℕ) → length xs ≤ n → m ≤ n → mid ≤ old + 1 → (xs ≡ [] → mid ≡ old)
    → 2 * new ≤ 2 * mid + most_comparisons m → new ≤ old + most_comparisons n
once_and_half [] m n old mid new few fewer once none half = omega (arith, none refl, most_rises m n fewer)
once_and_half (x ∷ xs) m n old mid new few fewer once none half =
    omega (arith, most_some n (omega (arith, few)), most_rises m n fewer)

-- at most one comparison, and then half of what is allowed
pub one_and_half : (m n old mid new : ℕ) → m ≤ n → mid ≤ old + 1 → 2 * new ≤ 2 * mid + most_comparisons m → 2 * new ≤ 2 * old + most_comparisons n + 2
one_and_half m n old mid new fewer once half = omega (arith, most_rises m n fewer)

-- two comparisons, and where there is nothing to compare with none; then half of what is allowed and one more
pub twice_and_half : {X : Type 0} (xs ys : List X) (n old mid new : ℕ) → n ≡ length ys + length xs → (ys ≡ [] → xs ≡ []) → mid ≤ old + 2 → (xs ≡ [] → mid ≡ old)
    → new ≤ mid + most_comparisons (length ys) → 2 * new ≤ 2 * mid + most_comparisons (length ys) + 2 → new ≤ old + most_comparisons n
twice_and_half [] ys n old mid new all none twice alone within half = omega (arith, alone refl, most_rises (length ys) n (omega (arith, all)))
twice_and_half (x ∷ xs) [] n old mid new all none twice alone within half = absurd (cc (none refl))
twice_and_half (x ∷ xs) (y ∷ ys) n old mid new all none twice alone within half =
    omega (arith, most_more n (omega (arith, all)), most_rises (length (y ∷ ys)) n (omega (arith, all)))

-- two comparisons, where there is an entry
pub twice_only : (n old new : ℕ) → 1 ≤ n → new ≤ old + 2 → new ≤ old + most_comparisons n
twice_only n old new some twice = omega (arith, most_some n some)

-- once down and once up
pub both_within : (n place old mid new : ℕ) → place ≤ n → ComparesAtLevels place old mid → ComparesAtLevels place mid new
    → 2 * new ≤ 2 * old + most_comparisons n
both_within n place old mid new few down up =
    omega (arith, down.rises, up.rises, levels_within n (mid - old) (omega (arith, down.levels)), levels_within n (new - mid) (omega (arith, up.levels)))

pub once_within : (n old new : ℕ) → ComparesAtLevels n old new → new ≤ old + most_comparisons n
once_within n old new h = omega (arith, h.rises, levels_within n (new - old) (omega (arith, h.levels)))

-- from a place to one right below it with at most one comparison
pub one_down : (place child old now next : ℕ) → parent child ≡ place → place < child → now ≤ next → next ≤ now + 1
    → ComparesAtLevels place old now → ComparesAtLevels child old next
one_down place child old now next under lower rises once h =
    let few : next - old ≤ (now - old) + 1 = omega (arith, h.rises) in
    record {
      rises = omega (arith, h.rises);
      levels = omega (arith, h.levels, pow_mono few, power_doubled (now - old));
    }

-- so few comparisons fit
pub fits_down : (place old now n : ℕ) → place < n → old + n < 2 ^ 64 → ComparesAtLevels place old now → now < 2 ^ 64 - 1
fits_down place old now n within few h = omega (arith, levels_few_enough place old now h)

-- on the way up: one comparison for each level between two places
pub record ComparesUpTo (bottom place old now : ℕ) : Type 0 where
  pub rises : old ≤ now
  pub levels : (place + 1) * 2 ^ (now - old) ≤ bottom + 1

pub one_up : (bottom place old now : ℕ) → 0 < place → ComparesUpTo bottom place old now → ComparesUpTo bottom (parent place) old (now + 1)
one_up bottom place old now more h =
    let e : now + 1 - old ≡ (now - old) + 1 = omega (arith, h.rises) in
    let p : ℕ = 2 ^ (now - old) in
    let less : (parent place + 1) * 2 ≤ place + 1 = omega arith in
    let product : ((parent place + 1) * 2) * p ≤ (place + 1) * p = mul-le-mul less (omega arith) in
    record {
      rises = omega (arith, h.rises);
      levels = rw (e, power_doubled (now - old)) (omega (arith, product, h.levels));
    }

pub up_to_rest : (bottom place old now : ℕ) → ComparesUpTo bottom place old now → ComparesAtLevels bottom old now
up_to_rest bottom place old now h =
    let p : ℕ = 2 ^ (now - old) in
    let least : 1 ≤ place + 1 = omega arith in
    let product : 1 * p ≤ (place + 1) * p = mul-le-mul least (omega arith) in
    record { rises = h.rises; levels = omega (arith, h.levels, product) }

-- the last comparison on the way up finds that the entry stays
pub one_more : (bottom place old now : ℕ) → 0 < place → ComparesUpTo bottom place old now → ComparesAtLevels bottom old (now + 1)
one_more bottom place old now more h = up_to_rest bottom (parent place) old (now + 1) (one_up bottom place old now more h)

-- so few comparisons fit
pub fits_up : (bottom place old now : ℕ) → old + bottom + 1 < 2 ^ 64 → ComparesUpTo bottom place old now → now < 2 ^ 64 - 1
fits_up bottom place old now few h =
    omega (arith, levels_few_enough bottom old now (up_to_rest bottom place old now h))
