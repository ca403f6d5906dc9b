-- The best element of a list: it takes the place of all that stand before it, and none behind it takes its place.
use Rattle.std.proofs.Common.{◌≡◌, Bool, true, false, List, [], ◌∷◌, ◌++◌, Some, refl, sym, subst, ap, append_assoc, zero, arith, All}
use Rattle.std.specs.List.{Contains}
use Rattle.std.proofs.lemmas.List.{append-nil}
use Rattle.std.proofs.lemmas.List.Elements.{All-nil, All-cons, All-append, All-push, All-weaker, Contains-append_right}
use Rattle.std.proofs.lemmas.Option.{same_Some, none-some}
use Rattle.sim_machine.specs.Choices.{best_from, best}
use Rattle.sim_machine_law.proofs.KeptParts.KeptTimesCases.{if_cases}

-- a test that goes on through what takes a place, and through what doesn't
pub record IsRanking {X : Type 0} (takes_place : X → X → Bool) : Type 0 where
  pub onward : (y m x : X) → takes_place y m ≡ true → takes_place m x ≡ true → takes_place y x ≡ true
  pub beyond : (y m x : X) → takes_place y m ≡ true → takes_place x m ≡ false → takes_place y x ≡ true

-- where the best stands, and what stands before and behind it
pub record IsBest {X : Type 0} (takes_place : X → X → Bool) (xs : List X) (m : X) : Type 0 where
  pub before : List X
  pub after : List X
  pub stands : xs ≡ before ++ m ∷ after
  pub earlier : All (λ x. takes_place m x ≡ true) before
  pub later : All (λ x. takes_place x m ≡ false) after

module _ {X : Type 0} (takes_place : X → X → Bool) (ranking : IsRanking takes_place) where
  best_within : (before between : List X) (m : X) (ys : List X) → All (λ x. takes_place m x ≡ true) before →
      All (λ x. takes_place x m ≡ false) between → IsBest takes_place (before ++ m ∷ (between ++ ys)) (best_from takes_place m ys)
  best_within before between m [] earlier later =
      record { before = before; after = between; stands = ap (λ (zs : List X). before ++ m ∷ zs) (append-nil between); earlier = earlier; later = later }
  best_within before between m (y ∷ ys) earlier later =
      if_cases (λ z. IsBest takes_place (before ++ m ∷ (between ++ y ∷ ys)) (best_from takes_place z ys)) (takes_place y m) y m
      (λ takes. subst (λ (zs : List X). IsBest takes_place zs (best_from takes_place y ys)) (append_assoc before (m ∷ between) (y ∷ ys))
      (best_within (before ++ m ∷ between) [] y ys
      (All-append (λ x. takes_place y x ≡ true) before (m ∷ between)
      (All-weaker (λ x. takes_place m x ≡ true) (λ x. takes_place y x ≡ true) (λ x h. ranking.onward y m x takes h) before earlier)
      (All-cons (λ x. takes_place y x ≡ true) m between takes (All-weaker (λ x. takes_place x m ≡ false) (λ x. takes_place y x ≡ true) (λ x h. ranking.beyond y m x takes h) between later)))
      (All-nil (λ x. takes_place x y ≡ false))))
      (λ stays. subst (λ (zs : List X). IsBest takes_place (before ++ m ∷ zs) (best_from takes_place m ys)) (append_assoc between (y ∷ []) ys)
      (best_within before (between ++ y ∷ []) m ys earlier (All-push (λ x. takes_place x m ≡ false) between y later stays)))

  -- what best gives is the best
  pub is_best : (xs : List X) (m : X) → best takes_place xs ≡ Some m → IsBest takes_place xs m
  is_best [] m h = absurd (none-some m h)
  is_best (x ∷ xs) m h = subst (IsBest takes_place (x ∷ xs)) (same_Some _ m h) (best_within [] [] x xs (All-nil (λ y. takes_place x y ≡ true)) (All-nil (λ y. takes_place y x ≡ false)))

-- the best is one of the list
pub best_contained : {X : Type 0} (takes_place : X → X → Bool) (xs : List X) (m : X) → IsBest takes_place xs m → Contains xs m
best_contained {X} takes_place xs m h =
    subst (λ (zs : List X). Contains zs m) (sym h.stands) (Contains-append_right h.before (m ∷ h.after) m (zero, omega arith, refl))

-- what holds of the best, and of all before and behind it, holds of all
pub all_beside : {X : Type 0} (takes_place : X → X → Bool) (P : X → Type 0) (xs : List X) (m : X) → IsBest takes_place xs m → P m →
    ((x : X) → takes_place m x ≡ true → P x) → ((x : X) → takes_place x m ≡ false → P x) → All P xs
all_beside {X} takes_place P xs m h here earlier later =
    subst (λ (zs : List X). All P zs) (sym h.stands) (All-append P h.before (m ∷ h.after) (All-weaker _ P earlier h.before h.earlier) (All-cons P m h.after here (All-weaker _ P later h.after h.later)))
