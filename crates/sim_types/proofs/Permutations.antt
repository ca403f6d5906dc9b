-- What a list in another order keeps: what passes a test, that no two elements are alike, and the one that is found by its number.
use Rattle.std.proofs.Common.{◌≡◌, ◌≢◌, ℕ, zero, suc, ◌<◌, Bool, true, false, List, [], ◌∷◌, length, refl, sym, ap, subst, ◌∙◌, arith}
use Rattle.std.specs.Prelude.{slice_index_or, slice_set, filter, All, AllPairs, Option, Some, find, cond, not, ◌==◌}
use Rattle.std.specs.List.{swap}
use Rattle.std.specs.List.Sorted.{IsPermutation}
use Rattle.std.proofs.lemmas.List.Sorted.{IsPermutation-refl, IsPermutation-trans, IsPermutation-cons, IsPermutation-swap, IsPermutation-keeps, All-permutation}
use Rattle.std.proofs.lemmas.Bool.Decides.{nat_tests}
use Rattle.std.proofs.lemmas.List.Elements.{All-cons, All-head, All-tail}
use Rattle.std.proofs.lemmas.List.Kept.{AllPairs-cons}

-- one list is the other with its elements in another order, rule by rule
data Rearranged {X : Type 0} : List X → List X → Type 0 where
  same : (xs : List X) → Rearranged xs xs
  more : (x : X) (xs ys : List X) → Rearranged xs ys → Rearranged (x ∷ xs) (x ∷ ys)
  exchanged : (x y : X) (xs : List X) → Rearranged (x ∷ y ∷ xs) (y ∷ x ∷ xs)
  joined : (xs ys zs : List X) → Rearranged xs ys → Rearranged ys zs → Rearranged xs zs

-- the first element and a later one are exchanged
exchanged_later : {X : Type 0} (x : X) (xs : List X) (k : ℕ) (d : X) → k < length xs → Rearranged (x ∷ xs) (slice_index_or xs k d ∷ slice_set xs k x)
exchanged_later x [] k d h = absurd (omega (arith, h))
exchanged_later x (z ∷ zs) zero d h = exchanged x z zs
exchanged_later x (z ∷ zs) (suc k) d h =
    let y = slice_index_or zs k d in
    joined _ (z ∷ x ∷ zs) _ (exchanged x z zs)
    (joined _ (z ∷ y ∷ slice_set zs k x) _ (more z (x ∷ zs) (y ∷ slice_set zs k x) (exchanged_later x zs k d (omega (arith, h)))) (exchanged z y (slice_set zs k x)))

-- two elements are exchanged
exchanged_at : {X : Type 0} (xs : List X) (i j : ℕ) (d : X) → i < length xs → j < length xs
    → Rearranged xs (slice_set (slice_set xs i (slice_index_or xs j d)) j (slice_index_or xs i d))
exchanged_at [] i j d h k = absurd (omega (arith, h))
exchanged_at (x ∷ xs) zero zero d h k = same (x ∷ xs)
exchanged_at (x ∷ xs) zero (suc j) d h k = exchanged_later x xs j d (omega (arith, k))
exchanged_at (x ∷ xs) (suc i) zero d h k = exchanged_later x xs i d (omega (arith, h))
exchanged_at (x ∷ xs) (suc i) (suc j) d h k = more x xs _ (exchanged_at xs i j d (omega (arith, h)) (omega (arith, k)))

swapped : {X : Type 0} (xs : List X) (i j : ℕ) → i < length xs → j < length xs → Rearranged xs (swap xs i j)
swapped [] i j h k = absurd (omega (arith, h))
swapped (x ∷ xs) i j h k = exchanged_at (x ∷ xs) i j x h k

rearranged : {X : Type 0} (xs ys : List X) → IsPermutation xs ys → Rearranged xs ys
rearranged {X} xs ys h =
    IsPermutation-keeps xs (λ (l : List X). Rearranged xs l) (same xs) (λ l i j below within before. joined xs l (swap l i j) before (swapped l i j below within)) ys h

permuted : {X : Type 0} (xs ys : List X) → Rearranged xs ys → IsPermutation xs ys
permuted xs ys (same zs) = IsPermutation-refl zs
permuted xs ys (more x us vs h) = IsPermutation-cons x us vs (permuted us vs h)
permuted xs ys (exchanged x y zs) = IsPermutation-swap (x ∷ y ∷ zs) (y ∷ x ∷ zs) 0 1 (omega arith) (omega arith) refl
permuted xs ys (joined us vs ws h k) = IsPermutation-trans us vs ws (permuted us vs h) (permuted vs ws k)

filter_more : {X : Type 0} (test : X → Bool) (x : X) (xs ys : List X) (b : Bool)
    → Rearranged (filter test xs) (filter test ys)
    → Rearranged (cond b (x ∷ filter test xs) (filter test xs)) (cond b (x ∷ filter test ys) (filter test ys))
filter_more test x xs ys true h = more x _ _ h
filter_more test x xs ys false h = h

filter_exchanged : {X : Type 0} (x y : X) (zs : List X) (a b : Bool)
    → Rearranged (cond a (x ∷ cond b (y ∷ zs) zs) (cond b (y ∷ zs) zs))
    (cond b (y ∷ cond a (x ∷ zs) zs) (cond a (x ∷ zs) zs))
filter_exchanged x y zs true true = exchanged x y zs
filter_exchanged x y zs true false = same (x ∷ zs)
filter_exchanged x y zs false true = same (y ∷ zs)
filter_exchanged x y zs false false = same zs

filtered : {X : Type 0} (test : X → Bool) (xs ys : List X) → Rearranged xs ys → Rearranged (filter test xs) (filter test ys)
filtered test xs ys (same zs) = same (filter test zs)
filtered test xs ys (more x us vs h) = filter_more test x us vs (test x) (filtered test us vs h)
filtered test xs ys (exchanged x y zs) = filter_exchanged x y (filter test zs) (test x) (test y)
filtered test xs ys (joined us vs ws h k) = joined _ (filter test vs) _ (filtered test us vs h) (filtered test vs ws k)

-- what passes a test, in another order
pub IsPermutation-filter : {X : Type 0} (test : X → Bool) (xs ys : List X) → IsPermutation xs ys → IsPermutation (filter test xs) (filter test ys)
IsPermutation-filter test xs ys h = permuted (filter test xs) (filter test ys) (filtered test xs ys (rearranged xs ys h))

-- ---- elements that are told apart by a number

pub AllPairs-head : {X : Type 0} (R : X → X → Type 0) (x : X) (xs : List X) → AllPairs R (x ∷ xs) → All (R x) xs
AllPairs-head R x xs h = λ k d below. h 0 (suc k) d (omega arith) (omega (arith, below))

pub AllPairs-tail : {X : Type 0} (R : X → X → Type 0) (x : X) (xs : List X) → AllPairs R (x ∷ xs) → AllPairs R xs
AllPairs-tail R x xs h = λ i j d before below. h (suc i) (suc j) d (omega (arith, before)) (omega (arith, below))

pairs_rearranged : {X : Type 0} (R : X → X → Type 0) (turned : (x y : X) → R x y → R y x) (xs ys : List X) → Rearranged xs ys → AllPairs R xs → AllPairs R ys
pairs_rearranged R turned xs ys (same zs) h = h
pairs_rearranged R turned xs ys (more x us vs r) h =
    AllPairs-cons R x vs (All-permutation (R x) us vs (permuted us vs r) (AllPairs-head R x us h)) (pairs_rearranged R turned us vs r (AllPairs-tail R x us h))
pairs_rearranged R turned xs ys (exchanged x y zs) h =
    let first : All (R x) (y ∷ zs) = AllPairs-head R x (y ∷ zs) h in
    let rest : AllPairs R (y ∷ zs) = AllPairs-tail R x (y ∷ zs) h in
    AllPairs-cons R y (x ∷ zs) (All-cons (R y) x zs (turned x y (All-head (R x) y zs first)) (AllPairs-head R y zs rest))
    (AllPairs-cons R x zs (All-tail (R x) y zs first) (AllPairs-tail R y zs rest))
pairs_rearranged R turned xs ys (joined us vs ws r q) h = pairs_rearranged R turned vs ws q (pairs_rearranged R turned us vs r h)

-- what holds of each two elements, in either order, holds of each two in another order
pub AllPairs-IsPermutation : {X : Type 0} (R : X → X → Type 0) (turned : (x y : X) → R x y → R y x) (xs ys : List X)
    → IsPermutation xs ys → AllPairs R xs → AllPairs R ys
AllPairs-IsPermutation R turned xs ys h pairs = pairs_rearranged R turned xs ys (rearranged xs ys h) pairs

-- no two elements have the same number
abbrev pub Differ : {X : Type 0} → (X → ℕ) → X → X → Type 0
Differ key x y = key x ≢ key y

find_exchanged : {X : Type 0} (x y : X) (o : Option X) (a b : Bool) → (a ≡ true → b ≡ true → ⊥)
    → cond a (Some x) (cond b (Some y) o) ≡ cond b (Some y) (cond a (Some x) o)
find_exchanged x y o true true h = absurd (h refl refl)
find_exchanged x y o true false h = refl
find_exchanged x y o false true h = refl
find_exchanged x y o false false h = refl

both_pass : (a b n : ℕ) → (a == n) ≡ true → (b == n) ≡ true → a ≡ b
both_pass a b n p q = grind (arith, nat_tests)

find_rearranged : {X : Type 0} (key : X → ℕ) (n : ℕ) (xs ys : List X) → Rearranged xs ys → AllPairs (Differ key) xs
    → find (λ x. key x == n) xs ≡ find (λ x. key x == n) ys
find_rearranged key n xs ys (same zs) h = refl
find_rearranged key n xs ys (more x us vs r) h = ap (λ o. cond (key x == n) (Some x) o) (find_rearranged key n us vs r (AllPairs-tail (Differ key) x us h))
find_rearranged key n xs ys (exchanged x y zs) h =
    let differ : Differ key x y = All-head (Differ key x) y zs (AllPairs-head (Differ key) x (y ∷ zs) h) in
    find_exchanged x y (find (λ z. key z == n) zs) (key x == n) (key y == n) (λ p q. differ (both_pass (key x) (key y) n p q))
find_rearranged key n xs ys (joined us vs ws r q) h =
    find_rearranged key n us vs r h ∙ find_rearranged key n vs ws q (pairs_rearranged (Differ key) (λ x y d. λ e. d (sym e)) us vs r h)

-- the element of a number is found in any order
pub find-IsPermutation : {X : Type 0} (key : X → ℕ) (n : ℕ) (xs ys : List X) → IsPermutation xs ys → AllPairs (Differ key) xs
    → find (λ x. key x == n) xs ≡ find (λ x. key x == n) ys
find-IsPermutation key n xs ys h pairs = find_rearranged key n xs ys (rearranged xs ys h) pairs

eqb_true : (a b : ℕ) → (a == b) ≡ true → a ≡ b
eqb_true a b h = grind (arith, nat_tests)

eqb_self : (a : ℕ) → (a == a) ≡ true
eqb_self a = grind (arith, nat_tests)

first_dropped : {X : Type 0} (b : Bool) → b ≡ true → (ys : List X) (x : X) → cond (not b) (x ∷ ys) ys ≡ ys
first_dropped b h ys x = rw h refl

kept_first : {X : Type 0} {y : X} {zs ys : List X} (b : Bool) → (b ≡ true → ⊥) → zs ≡ ys → cond (not b) (y ∷ zs) zs ≡ y ∷ ys
kept_first true h e = absurd (h refl)
kept_first {X} {y} false h e = ap (λ us. y ∷ us) e

kept_by : {X : Type 0} (key : X → ℕ) (x : X) (xs : List X) → All (Differ key x) xs → filter (λ y. not (key y == key x)) xs ≡ xs
kept_by key x [] h = refl
kept_by key x (y ∷ ys) h = kept_first (key y == key x) (λ e. All-head (Differ key x) y ys h (sym (eqb_true (key y) (key x) e))) (kept_by key x ys (All-tail (Differ key x) y ys h))

-- without the element of this number there are the others
pub IsPermutation-without : {X : Type 0} (key : X → ℕ) (x : X) (xs ys : List X) → AllPairs (Differ key) xs
    → IsPermutation xs (x ∷ ys) → IsPermutation (filter (λ y. not (key y == key x)) xs) ys
IsPermutation-without {X} key x xs ys pairs h =
    let others : All (Differ key x) ys = AllPairs-head (Differ key) x ys (AllPairs-IsPermutation (Differ key) (λ a b d. λ e. d (sym e)) xs (x ∷ ys) h pairs) in
    let P : List X → Type 0 = λ zs. IsPermutation (filter (λ y. not (key y == key x)) xs) zs in
    subst P (first_dropped (key x == key x) (eqb_self (key x)) (filter (λ y. not (key y == key x)) ys) x ∙ kept_by key x ys others) (IsPermutation-filter (λ y. not (key y == key x)) xs (x ∷ ys) h)
