-- The best element of a list, where it stands between others.
use Rattle.std.proofs.Common.{◌≡◌, Bool, true, false, List, [], ◌∷◌, ◌++◌, Some, refl, ap, ◌∙◌, All, if◌then◌else◌}
use Rattle.std.proofs.lemmas.List.Elements.{All-head, All-tail}
use Rattle.sim_machine.specs.Choices.{best, best_from}

module _ {X : Type 0} (f : X → X → Bool) where
  -- where no later one takes its place, the first is the best
  best_stays : (x : X) (ys : List X) → All (λ y. f y x ≡ false) ys → best_from f x ys ≡ x
  best_stays x [] h = refl
  best_stays x (y ∷ ys) h =
      ap (λ b. best_from f (if b then y else x) ys) (All-head (λ z. f z x ≡ false) y ys h) ∙ best_stays x ys (All-tail (λ z. f z x ≡ false) y ys h)

  either : (x y z : X) (b : Bool) → f x y ≡ true → f x z ≡ true → f x (if b then y else z) ≡ true
  either x y z true p q = p
  either x y z false p q = q

  best_from_between : (x z : X) (ys zs : List X) → f x z ≡ true → All (λ y. f x y ≡ true) ys → All (λ y. f y x ≡ false) zs
      → best_from f z (ys ++ x ∷ zs) ≡ x
  best_from_between x z [] zs p h k = ap (λ b. best_from f (if b then x else z) zs) p ∙ best_stays x zs k
  best_from_between x z (y ∷ ys) zs p h k =
      best_from_between x (if f y z then y else z) ys zs (either x y z (f y z) (All-head (λ w. f x w ≡ true) y ys h) p) (All-tail (λ w. f x w ≡ true) y ys h) k

  -- the one that takes the place of each before it, and whose place none behind it takes
  pub best_between : (x : X) (ys zs : List X) → All (λ y. f x y ≡ true) ys → All (λ y. f y x ≡ false) zs → best f (ys ++ x ∷ zs) ≡ Some x
  best_between x [] zs h k = ap Some (best_stays x zs k)
  best_between x (y ∷ ys) zs h k = ap Some (best_from_between x y ys zs (All-head (λ w. f x w ≡ true) y ys h) (All-tail (λ w. f x w ≡ true) y ys h) k)
