-- A list in order by a test, when one joins it and when some leave it.
use Rattle.std.proofs.Common.{◌≡◌, ℕ, zero, suc, ◌<◌, ◌≤◌, Bool, true, false, not, List, [], ◌∷◌, ◌++◌, length, refl, sym, ap, subst, ◌∙◌, ⊎_elim, inl, inr, filter, if◌then◌else◌, arith, get_or, All}
use Rattle.std.specs.Cmp.{IsStrictWeakOrder}
use Rattle.std.specs.List.{insert}
use Rattle.std.specs.List.Sorted.{IsPermutation, IsPartitionPoint, IsPartitionedBy}
use Rattle.std.proofs.lemmas.Bool.{false≢true, cases_Bool, not-true, not-false, cases_lt}
use Rattle.std.proofs.lemmas.List.Elements.{All-nil, All-cons, All-head, All-filter}
use Rattle.std.proofs.lemmas.List.Sorted.{IsPermutation-refl, IsPermutation-cons, IsPermutation-trans, IsPermutation-middle, All-permutation}
use Rattle.std.proofs.lemmas.List.Kept.{AllPairs-cons}
use Rattle.sim_types.proofs.Permutations.{AllPairs-head, AllPairs-tail}
use Rattle.sim_shared_model.specs.Sorting.{put_behind, put_ahead, sorted_by, IsInOrderBy}

-- ---- the same elements

module _ {X : Type 0} (before : X → X → Bool) where
  -- two lists by a test
  pub by_test : (P : List X → Type 0) (b : Bool) (xs ys : List X) → (b ≡ true → P xs) → (b ≡ false → P ys) → P (if b then xs else ys)
  by_test P true xs ys p q = p refl
  by_test P false xs ys p q = q refl

  pub same_behind : (w : X) (vs : List X) → IsPermutation (w ∷ vs) (put_behind before w vs)
  same_behind w [] = IsPermutation-refl (w ∷ [])
  same_behind w (v ∷ vs) =
      by_test (IsPermutation (w ∷ v ∷ vs)) (before w v) (w ∷ v ∷ vs) (v ∷ put_behind before w vs)
      (λ first. IsPermutation-refl (w ∷ v ∷ vs))
      (λ later. IsPermutation-trans (w ∷ v ∷ vs) (v ∷ w ∷ vs) (v ∷ put_behind before w vs) (IsPermutation-middle (w ∷ []) v vs) (IsPermutation-cons v (w ∷ vs) (put_behind before w vs) (same_behind w vs)))

  pub same_ahead : (w : X) (vs : List X) → IsPermutation (w ∷ vs) (put_ahead before w vs)
  same_ahead w [] = IsPermutation-refl (w ∷ [])
  same_ahead w (v ∷ vs) =
      by_test (IsPermutation (w ∷ v ∷ vs)) (before v w) (v ∷ put_ahead before w vs) (w ∷ v ∷ vs)
      (λ first. IsPermutation-trans (w ∷ v ∷ vs) (v ∷ w ∷ vs) (v ∷ put_ahead before w vs) (IsPermutation-middle (w ∷ []) v vs) (IsPermutation-cons v (w ∷ vs) (put_ahead before w vs) (same_ahead w vs)))
      (λ later. IsPermutation-refl (w ∷ v ∷ vs))

  pub same_sorted : (ws : List X) → IsPermutation ws (sorted_by before ws)
  same_sorted [] = IsPermutation-refl []
  same_sorted (w ∷ ws) =
      IsPermutation-trans (w ∷ ws) (w ∷ sorted_by before ws) (put_ahead before w (sorted_by before ws)) (IsPermutation-cons w ws (sorted_by before ws) (same_sorted ws)) (same_ahead w (sorted_by before ws))

  -- ---- in place

  -- where all before place i are not after w and all from there on are, w stands there
  pub put_at : (w : X) (vs : List X) (i : ℕ) → i ≤ length vs → IsPartitionPoint (λ v. before w v ≡ false) (λ v. before w v ≡ true) vs i →
      insert vs i w ≡ put_behind before w vs
  put_at w [] zero h p = refl
  put_at w [] (suc i) h p = absurd (omega arith)
  put_at w (v ∷ vs) zero h p = rw (p.1 0 v (omega arith) (omega arith)) refl
  put_at w (v ∷ vs) (suc i) h p =
      rw (p.0 0 v (omega arith) (omega arith))
      (ap (λ us. v ∷ us) (put_at w vs i (omega arith) ((λ k d low below. p.0 (suc k) d (omega arith) (omega arith)), (λ k d low below. p.1 (suc k) d (omega arith) (omega arith)))))

  -- ---- where one belongs

  -- of all in order, those that a test leaves stand before the others, where it takes all behind one that it takes
  pub partitioned : (takes : X → Bool) (vs : List X) → ((u v : X) → before v u ≡ false → takes u ≡ true → takes v ≡ true) →
      IsInOrderBy before vs → IsPartitionedBy (λ v. not (takes v)) vs
  partitioned takes vs onward h i j d le below leaves =
      ⊎_elim
      (λ (first : i < j). left_too (takes (get_or vs i d)) (takes (get_or vs j d)) (onward (get_or vs i d) (get_or vs j d) (h i j d first below)) leaves)
      (λ (later : j ≤ i). subst (λ n. not (takes (get_or vs n d)) ≡ true) (at_most i j le later) leaves)
      (cases_lt i j)
    where
      at_most : (i j : ℕ) → i ≤ j → j ≤ i → j ≡ i
      at_most i j h k = omega arith

      left_too : (a b : Bool) → (a ≡ true → b ≡ true) → not b ≡ true → not a ≡ true
      left_too true b onward leaves = absurd (false≢true (ap not (sym (onward refl)) ∙ leaves))
      left_too false b onward leaves = refl

-- ---- order

module _ {X : Type 0} (before : X → X → Bool) (order : IsStrictWeakOrder before) where
  strict : (a b c : X) → before a b ≡ true → before b c ≡ true → before a c ≡ true
  strict a b c h k =
      elim (cases_Bool (before a c)) [
        | inl is ↦ is
        | inr off ↦ absurd (false≢true (sym (order.chain b a c (order.one_way a b h) off) ∙ k))
      ]

  -- all that stand behind one that w is not after are not before w
  later_too : (w v : X) (vs : List X) → before v w ≡ false → All (λ u. before u v ≡ false) vs → All (λ u. before u w ≡ false) vs
  later_too w v vs h all = λ n d below. order.chain (get_or vs n d) v w (all n d below) h

  pub ahead_in_order : (w : X) (vs : List X) → IsInOrderBy before vs → IsInOrderBy before (put_ahead before w vs)
  ahead_in_order w [] h = AllPairs-cons (λ x y. before y x ≡ false) w [] (All-nil (λ y. before y w ≡ false)) h
  ahead_in_order w (v ∷ vs) h =
      by_test before (IsInOrderBy before) (before v w) (v ∷ put_ahead before w vs) (w ∷ v ∷ vs)
      (λ first. AllPairs-cons (λ x y. before y x ≡ false) v (put_ahead before w vs) (All-permutation (λ y. before y v ≡ false) (w ∷ vs) (put_ahead before w vs) (same_ahead before w vs) (All-cons (λ y. before y v ≡ false) w vs (order.one_way v w first) (AllPairs-head (λ x y. before y x ≡ false) v vs h))) (ahead_in_order w vs (AllPairs-tail (λ x y. before y x ≡ false) v vs h)))
      (λ later. AllPairs-cons (λ x y. before y x ≡ false) w (v ∷ vs) (All-cons (λ y. before y w ≡ false) v vs later (later_too w v vs later (AllPairs-head (λ x y. before y x ≡ false) v vs h))) h)

  pub sorted_in_order : (ws : List X) → IsInOrderBy before (sorted_by before ws)
  sorted_in_order [] = λ i j d first below. absurd (none_below j below)
    where
      none_below : (j : ℕ) → j < 0 → ⊥
      none_below j below = omega arith
  sorted_in_order (w ∷ ws) = ahead_in_order w (sorted_by before ws) (sorted_in_order ws)

  -- one that all others may stand behind is first
  front : (w : X) (vs : List X) → All (λ u. before u w ≡ false) vs → put_ahead before w vs ≡ w ∷ vs
  front w [] h = refl
  front w (v ∷ vs) h = rw (All-head (λ u. before u w ≡ false) v vs h) refl

  -- what is in order is its own order
  pub sorted_same : (ws : List X) → IsInOrderBy before ws → sorted_by before ws ≡ ws
  sorted_same [] h = refl
  sorted_same (w ∷ ws) h =
      ap (put_ahead before w) (sorted_same ws (AllPairs-tail (λ x y. before y x ≡ false) w ws h)) ∙ front w ws (AllPairs-head (λ x y. before y x ≡ false) w ws h)

  -- ---- one joins that came last

  -- an older one and the last one may join in any order
  cross_cases : (x w v : X) (vs : List X) (a b c : Bool) → before w v ≡ a → before v x ≡ b → before w x ≡ c →
      put_ahead before x (put_behind before w vs) ≡ put_behind before w (put_ahead before x vs) →
      put_ahead before x (put_behind before w (v ∷ vs)) ≡ put_behind before w (put_ahead before x (v ∷ vs))
  cross_cases x w v vs true true true h k l later = rw (h, k) (rw (h, l) refl)
  cross_cases x w v vs true true false h k l later = absurd (false≢true (sym l ∙ strict w v x h k))
  cross_cases x w v vs true false true h k l later = rw (h, k) (rw l refl)
  cross_cases x w v vs true false false h k l later = rw (h, k) (rw l (rw h refl))
  cross_cases x w v vs false true c h k l later = rw (h, k) (rw h (ap (λ ys. v ∷ ys) later))
  cross_cases x w v vs false false true h k l later = absurd (false≢true (sym (order.chain w v x h k) ∙ l))
  cross_cases x w v vs false false false h k l later = rw (h, k) (rw (l, h) refl)

  cross_none : (x w : X) (c : Bool) → before w x ≡ c → put_ahead before x (w ∷ []) ≡ put_behind before w (x ∷ [])
  cross_none x w true l = rw l refl
  cross_none x w false l = rw l refl

  cross : (x w : X) (vs : List X) → put_ahead before x (put_behind before w vs) ≡ put_behind before w (put_ahead before x vs)
  cross x w [] = cross_none x w (before w x) refl
  cross x w (v ∷ vs) = cross_cases x w v vs (before w v) (before v x) (before w x) refl refl refl (cross x w vs)

  pub sorted_joined : (ws : List X) (w : X) → sorted_by before (ws ++ w ∷ []) ≡ put_behind before w (sorted_by before ws)
  sorted_joined [] w = refl
  sorted_joined (x ∷ ws) w = ap (put_ahead before x) (sorted_joined ws w) ∙ cross x w (sorted_by before ws)

  -- where it joins, all are in order
  pub behind_in_order : (w : X) (vs : List X) → IsInOrderBy before vs → IsInOrderBy before (put_behind before w vs)
  behind_in_order w vs h =
      subst (λ us. IsInOrderBy before (put_behind before w us)) (sorted_same vs h) (subst (IsInOrderBy before) (sorted_joined vs w) (sorted_in_order (vs ++ w ∷ [])))

  -- ---- some leave

  left_out : (p : X → Bool) (w v : X) (vs : List X) (a b c : Bool) → p w ≡ a → p v ≡ b → before v w ≡ c → IsInOrderBy before (v ∷ vs) →
      filter p (put_ahead before w vs) ≡ (if p w then put_ahead before w (filter p vs) else filter p vs) →
      filter p (put_ahead before w (v ∷ vs)) ≡ (if p w then put_ahead before w (filter p (v ∷ vs)) else filter p (v ∷ vs))
  left_out p w v vs true true true h k l s later = rw (h, k, l) (rw k (ap (λ ys. v ∷ ys) (later ∙ rw h refl)))
  left_out p w v vs true true false h k l s later = rw (h, k, l) (rw (h, k) refl)
  left_out p w v vs true false true h k l s later = rw (h, k, l) (rw k (later ∙ rw h refl))
  left_out p w v vs true false false h k l s later =
      rw (h, k, l) (rw (h, k) (sym (front w (filter p vs) (All-filter p (λ u. before u w ≡ false) vs (later_too w v vs l (AllPairs-head (λ x y. before y x ≡ false) v vs s))))))
  left_out p w v vs false b true h k l s later = rw (h, l) (ap (λ ys. if p v then v ∷ ys else ys) (later ∙ rw h refl))
  left_out p w v vs false b false h k l s later = rw (h, l) (rw h refl)

  filter_ahead : (p : X → Bool) (w : X) (vs : List X) → IsInOrderBy before vs →
      filter p (put_ahead before w vs) ≡ (if p w then put_ahead before w (filter p vs) else filter p vs)
  filter_ahead p w [] s = refl
  filter_ahead p w (v ∷ vs) s =
      left_out p w v vs (p w) (p v) (before v w) refl refl refl s (filter_ahead p w vs (AllPairs-tail (λ x y. before y x ≡ false) v vs s))

  one_sorted : (p : X → Bool) (w : X) (ws : List X) (b : Bool) → p w ≡ b → sorted_by before (filter p ws) ≡ filter p (sorted_by before ws) →
      sorted_by before (filter p (w ∷ ws)) ≡ (if p w then put_ahead before w (filter p (sorted_by before ws)) else filter p (sorted_by before ws))
  one_sorted p w ws true h k = rw h (ap (put_ahead before w) k)
  one_sorted p w ws false h k = rw h k

  pub sorted_filtered : (p : X → Bool) (ws : List X) → sorted_by before (filter p ws) ≡ filter p (sorted_by before ws)
  sorted_filtered p [] = refl
  sorted_filtered p (w ∷ ws) =
      one_sorted p w ws (p w) refl (sorted_filtered p ws) ∙ sym (filter_ahead p w (sorted_by before ws) (sorted_in_order ws))

-- the same place, by the test and not by its negation
pub place_of_test : {X : Type 0} (takes : X → Bool) (vs : List X) (i : ℕ) → IsPartitionPoint (λ v. not (takes v) ≡ true) (λ v. not (takes v) ≡ false) vs i →
    IsPartitionPoint (λ v. takes v ≡ false) (λ v. takes v ≡ true) vs i
place_of_test takes vs i p =
    ((λ k d low below. not-true (takes (get_or vs k d)) (p.0 k d low below)), (λ k d low below. not-false (takes (get_or vs k d)) (p.1 k d low below)))
