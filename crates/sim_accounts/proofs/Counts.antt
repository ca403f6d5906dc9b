-- Counts, and the tests that some element passes.
use Rattle.std.proofs.Common.{◌≡◌, ℕ, ◌+◌, ◌<◌, Bool, true, false, ◌&&◌, List, [], ◌∷◌, filter, refl, ap, arith, ◌⊎◌, inl, inr, ⊎_elim, zero, suc, if◌then◌else◌}
use Rattle.std.specs.Prelude.{count_by}
use Rattle.std.specs.List.{list_any, sum_by}
use Rattle.std.proofs.lemmas.Bool.{false≢true, or_cases}
use Rattle.std.proofs.lemmas.Bool.Decides.{nat_tests}
use Rattle.std.proofs.lemmas.List.Sums.{sum_by-cons}
use Rattle.sim_types.specs.declared.event.EventId.{EventId}
use Rattle.sim_machine.specs.Events.{is_same}
use Rattle.sim_machine.specs.Standing.{one_if}
use Rattle.sim_machine_law.proofs.Events.CallbackLaws.{count_by-cons, counts_one}
use Rattle.sim_lawful.proofs.Reached.KeptReasons.{or_first, or_second}

pub is_same-swap : (e f : EventId) → is_same e f ≡ is_same f e
is_same-swap e f = grind (arith, nat_tests)

pub one_if_pos : (b : Bool) → 0 < one_if b → b ≡ true
one_if_pos true h = refl
one_if_pos false h = absurd (omega (arith, h))

pub one_pos : (a b : ℕ) → 0 < a + b → (0 < a) ⊎ (0 < b)
one_pos zero b h = inr (omega (arith, h))
one_pos (suc a) b h = inl (omega arith)

-- ---- some element passes where the count is not 0

module _ {X : Type 0} (p : X → Bool) where
  pub count_any : (xs : List X) → 0 < count_by p xs → list_any p xs ≡ true
  count_any [] h = absurd (omega (arith, h))
  count_any (x ∷ xs) h =
      ⊎_elim (λ here. or_first (p x) (list_any p xs) (one_if_pos (p x) here)) (λ later. or_second (p x) (list_any p xs) (count_any xs later))
      (one_pos (one_if (p x)) (count_by p xs) (omega (arith, h, count_by-cons p x xs)))

  pub any_count : (xs : List X) → list_any p xs ≡ true → 0 < count_by p xs
  any_count [] h = absurd (false≢true h)
  any_count (x ∷ xs) h =
      ⊎_elim (λ here. omega (arith, count_by-cons p x xs, counts_one (p x) here)) (λ later. omega (arith, count_by-cons p x xs, any_count xs later)) (or_cases (p x) (list_any p xs) h)

  pub sum_any : (f : X → ℕ) → ((x : X) → 0 < f x → p x ≡ true) → (xs : List X) → 0 < sum_by f xs → list_any p xs ≡ true
  sum_any f each [] h = absurd (omega (arith, h))
  sum_any f each (x ∷ xs) h =
      ⊎_elim (λ here. or_first (p x) (list_any p xs) (each x here)) (λ later. or_second (p x) (list_any p xs) (sum_any f each xs later))
      (one_pos (f x) (sum_by f xs) (omega (arith, h, sum_by-cons f x xs)))

  pub any_sum : (f : X → ℕ) → ((x : X) → p x ≡ true → 0 < f x) → (xs : List X) → list_any p xs ≡ true → 0 < sum_by f xs
  any_sum f each [] h = absurd (false≢true h)
  any_sum f each (x ∷ xs) h =
      ⊎_elim (λ here. omega (arith, sum_by-cons f x xs, each x here)) (λ later. omega (arith, sum_by-cons f x xs, any_sum f each xs later)) (or_cases (p x) (list_any p xs) h)

-- ---- counts of what is mapped, filtered, or tested alike

pub count_same : {X : Type 0} (p q : X → Bool) → ((x : X) → p x ≡ q x) → (xs : List X) → count_by p xs ≡ count_by q xs
count_same p q same [] = refl
count_same p q same (x ∷ xs) = omega (arith, count_by-cons p x xs, count_by-cons q x xs, ap one_if (same x), count_same p q same xs)

-- where an element is left out it isn't counted
count_kept : {X : Type 0} (p keep : X → Bool) (x : X) (xs : List X) (b : Bool) → keep x ≡ b → count_by p (filter keep xs) ≡ count_by (λ y. keep y && p y) xs
    → count_by p (if b then x ∷ filter keep xs else filter keep xs) ≡ count_by (λ y. keep y && p y) (x ∷ xs)
count_kept p keep x xs true is rest = omega (arith, count_by-cons p x (filter keep xs), count_by-cons (λ y. keep y && p y) x xs, ap (λ b. one_if (b && p x)) is, rest)
count_kept p keep x xs false is rest = omega (arith, count_by-cons (λ y. keep y && p y) x xs, ap (λ b. one_if (b && p x)) is, rest)

pub count_filter : {X : Type 0} (p keep : X → Bool) (xs : List X) → count_by p (filter keep xs) ≡ count_by (λ y. keep y && p y) xs
count_filter p keep [] = refl
count_filter p keep (x ∷ xs) = count_kept p keep x xs (keep x) refl (count_filter p keep xs)
