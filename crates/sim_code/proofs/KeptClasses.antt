-- The classes of variables by their numbers, as a loop over the variables sets them.
use Rattle.std.proofs.Common.{◌≡◌, refl, sym, ap, ◌∙◌, ℕ, zero, suc, ◌+◌, ◌<◌, ◌≤◌, List, [], ◌∷◌, ◌++◌, length, take, set, replicate, slice_get, Bool, true, false, nat_lt, Some, min, arith, add-one}
use Rattle.std.proofs.lemmas.Bool.Decides.{nat_tests}
use Rattle.std.proofs.lemmas.List.{take_all, take-append-le, take-replicate, length-take-le, take-take}
use Rattle.std.proofs.lemmas.Option.{none-some, same_Some}

module _ {A : Type 0} (c : A) where
  -- some of these, and then c, n of both
  abbrev pub some_then : ℕ → ℕ → List A → List A
  some_then n m vs = take n (vs ++ replicate m c)

  fewer : (n m : ℕ) → n ≤ m → take n (replicate m c) ≡ take n (replicate (suc m) c)
  fewer n m h = take-replicate n m c h ∙ sym (take-replicate n (suc m) c (omega arith))

  one_set : (n m i : ℕ) (vs : List A) (v : A) → i < n → n ≤ m → slice_get vs i ≡ Some v → set (some_then n m (take i vs)) i v ≡ some_then n m (take (suc i) vs)
  one_set zero m i vs v h k e = absurd (omega arith)
  one_set (suc n) zero i vs v h k e = absurd (omega arith)
  one_set (suc n) (suc m) i [] v h k e = absurd (none-some v e)
  one_set (suc n) (suc m) zero (x ∷ vs) v h k e = rw (same_Some x v e) (ap (λ l. v ∷ l) (fewer n m (omega arith)))
  one_set (suc n) (suc m) (suc i) (x ∷ vs) v h k e = ap (λ l. x ∷ l) (one_set n (suc m) i vs v (omega arith) (omega arith) e)

  module _ (n m : ℕ) (vs : List A) (below : n ≤ m) where
    abbrev pub kept : ℕ → List A
    kept i = take (suc n) (c ∷ take i vs ++ replicate m c)

    pub kept_none : replicate (suc n) c ≡ kept 0
    kept_none = ap (λ l. c ∷ l) (sym (take-replicate n m c below))

    pub kept_more : (i : ℕ) (v : A) (before after : List A) → i < n → slice_get vs i ≡ Some v → before ≡ kept i
        → after ≡ set before (i + 1) v → after ≡ kept (i + 1)
    kept_more i v before after h e is_before is_after =
        is_after ∙ ap (λ l. set l (i + 1) v) is_before ∙ rw (add-one i) (ap (λ l. c ∷ l) (one_set n m i vs v h below e))

    pub kept_all : (i : ℕ) → i ≡ min (length vs) n → kept i ≡ take (suc n) (c ∷ vs ++ replicate m c)
    kept_all i e = by (nat_lt (length vs) n) refl
      where
        all : length vs < n → kept i ≡ take (suc n) (c ∷ vs ++ replicate m c)
        all h = let t : take i vs ≡ vs = take_all i vs (omega arith) in rw t refl

        some : n ≤ length vs → kept i ≡ take (suc n) (c ∷ vs ++ replicate m c)
        some h =
            let t : i ≡ n = omega arith in
            let l : n ≤ length (take n vs) = omega (arith, length-take-le n vs h) in
            rw t (ap (λ l. c ∷ l) (take-append-le n (take n vs) (replicate m c) l ∙ take-take n n vs (omega arith) ∙ sym (take-append-le n vs (replicate m c) h)))

        by : (b : Bool) → nat_lt (length vs) n ≡ b → kept i ≡ take (suc n) (c ∷ vs ++ replicate m c)
        by true t = all (grind (arith, nat_tests))
        by false t = some (grind (arith, nat_tests))
