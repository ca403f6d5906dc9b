-- What a binary search among numbers that rise answers.
use Rattle.std.proofs.Common.{◌≡◌, ℕ, ◌<◌, ◌≤◌, List, length, get_or, inl, inr, arith}
use Rattle.std.specs.List.{HoldsAt}
use Rattle.std.specs.List.Sorted.{IsNonDecreasingBy, IsPartitionPoint}
use Rattle.std.specs.Ordering.{nat_cmp, ordering_index}
use Rattle.std.specs.declared.cmp.Ordering.TheVariants.{Less, Equal, Greater}
use Rattle.std.proofs.lemmas.Bool.{cases_order, cases_lt, eq-eqb, ne_eqb, lt-ltb, le-ltb}
use Rattle.std.proofs.lemmas.Bool.Decides.{nat_tests}
use Rattle.sim_index.specs.declared.entries.Entry.{Entry}
use Rattle.sim_index.specs.Entries.{NumbersRise, HasNumberAt, HasNumberNowhere, StandsBefore}

equal_means : (a b : ℕ) → nat_cmp a b ≡ Equal → a ≡ b
equal_means a b h = grind (arith, nat_tests)

less_means : (a b : ℕ) → nat_cmp a b ≡ Less → a < b
less_means a b h = grind (arith, nat_tests)

greater_means : (a b : ℕ) → nat_cmp a b ≡ Greater → b < a
greater_means a b h = grind (arith, nat_tests)

-- greater numbers are placed later by a comparison with one and the same
index_rises : (a b n : ℕ) → a ≤ b → ordering_index (nat_cmp a n) ≤ ordering_index (nat_cmp b n)
index_rises a b n h =
    elim (cases_order a n) [
      | inl same ↦ elim (cases_order b n) [
        | inl also ↦ rw (le-ltb a n (omega arith), eq-eqb a n same, le-ltb b n (omega arith), eq-eqb b n also) (omega arith)
        | inr (inl low) ↦ absurd (omega arith)
        | inr (inr high) ↦ rw (le-ltb a n (omega arith), eq-eqb a n same, le-ltb b n (omega arith), ne_eqb b n (λ s. omega arith)) (omega arith)
      ]
      | inr (inl low) ↦ rw (lt-ltb a n low) (omega arith)
      | inr (inr high) ↦ rw (le-ltb a n (omega arith), ne_eqb a n (λ s. omega arith), le-ltb b n (omega arith), ne_eqb b n (λ s. omega arith)) (omega arith)
    ]

rises_at_most : (es : List Entry) (i j : ℕ) (d : Entry) → NumbersRise es → i ≤ j → j < length es → (get_or es i d).number ≤ (get_or es j d).number
rises_at_most es i j d p h within =
    elim (cases_lt i j) [
      | inl below ↦ let less : (get_or es i d).number < (get_or es j d).number = p i j d below within in omega arith
      | inr same ↦ let e : i ≡ j = omega arith in rw e (omega arith)
    ]

pub hit : (es : List Entry) (n at : ℕ) → at < length es → HoldsAt (λ y. nat_cmp y.number n ≡ Equal) es at → HasNumberAt es n at
hit es n at within h = record { within = within; number = λ d. equal_means _ _ (h d) }

pub missed : (es : List Entry) (n i : ℕ) → NumbersRise es → i ≤ length es
    → (IsNonDecreasingBy (λ y. ordering_index (nat_cmp y.number n)) es
    → IsPartitionPoint (λ y. nat_cmp y.number n ≡ Less) (λ y. nat_cmp y.number n ≡ Greater) es i)
    → StandsBefore es n i
missed es n i p fits parts =
    let sides = parts (λ a b d h within. index_rises _ _ n (rises_at_most es a b d p h within)) in
    record {
      within = fits;
      lower = λ k d h. less_means _ _ (sides.0 k d (omega arith) h);
      higher = λ k d h within. greater_means _ _ (sides.1 k d h within);
    }

-- where an entry would stand between others, none has its number
pub nowhere : (es : List Entry) (n at : ℕ) → StandsBefore es n at → HasNumberNowhere es n
nowhere es n at s = λ k d h same. elim (cases_lt k at) [
  | inl low ↦ let less : (get_or es k d).number < n = s.lower k d low in omega arith
  | inr high ↦ let more : n < (get_or es k d).number = s.higher k d high h in omega arith
]
