-- The first few of what a list gives, as a loop over it keeps them.
use Rattle.std.proofs.Common.{◌≡◌, refl, sym, ap, ◌∙◌, ℕ, ◌+◌, ◌<◌, ◌≤◌, Bool, true, false, List, [], ◌∷◌, ◌++◌, length, take, map, get_or, cond, nat_lt, arith}
use Rattle.std.proofs.lemmas.List.{take_all, take-append-le, length-take-le, length_push, map_more}
use Rattle.std.proofs.lemmas.Bool.Decides.{nat_tests}

-- one more at the end
pub take_push : {A : Type 0} (n : ℕ) (ys : List A) (y : A) → take n (ys ++ y ∷ []) ≡ cond (nat_lt (length (take n ys)) n) (take n ys ++ y ∷ []) (take n ys)
take_push n ys y = by (nat_lt (length ys) n) refl
  where
    few : length ys < n → take n (ys ++ y ∷ []) ≡ cond (nat_lt (length (take n ys)) n) (take n ys ++ y ∷ []) (take n ys)
    few h =
        let all : take n ys ≡ ys = take_all n ys (omega arith) in
        let t : nat_lt (length ys) n ≡ true = grind (arith, nat_tests) in
        rw (all, t) (take_all n (ys ++ y ∷ []) (omega (arith, length_push ys y)))

    many : n ≤ length ys → take n (ys ++ y ∷ []) ≡ cond (nat_lt (length (take n ys)) n) (take n ys ++ y ∷ []) (take n ys)
    many h =
        let l : length (take n ys) ≡ n = length-take-le n ys h in
        let t : nat_lt n n ≡ false = grind (arith, nat_tests) in
        rw (l, t) (take-append-le n ys (y ∷ []) h)

    by : (b : Bool) → nat_lt (length ys) n ≡ b → take n (ys ++ y ∷ []) ≡ cond (nat_lt (length (take n ys)) n) (take n ys ++ y ∷ []) (take n ys)
    by true e = few (grind (arith, nat_tests))
    by false e = many (grind (arith, nat_tests))

module _ {X A : Type 0} (f : X → A) (n : ℕ) (xs : List X) where
  -- a push of what the next gives, unless n are held
  pub first_few_more : (i : ℕ) (x : X) (y : A) (held after : List A) → i < length xs → x ≡ get_or xs i x → y ≡ f x
      → held ≡ take n (map f (take i xs)) → after ≡ cond (nat_lt (length held) n) (held ++ y ∷ []) held
      → after ≡ take n (map f (take (i + 1) xs))
  first_few_more i x y held after h is_x is_y is_held is_after =
      is_after ∙ ap (λ l. cond (nat_lt (length l) n) (l ++ y ∷ []) l) is_held
      ∙ sym (ap (take n) (map_more f xs i x h ∙ ap (λ v. map f (take i xs) ++ v ∷ []) (ap f (sym is_x) ∙ sym is_y)) ∙ take_push n (map f (take i xs)) y)

  pub first_few_all : (i : ℕ) (held : List A) → length xs ≤ i → held ≡ take n (map f (take i xs)) → held ≡ take n (map f xs)
  first_few_all i held h e = e ∙ ap (λ l. take n (map f l)) (take_all i xs h)
