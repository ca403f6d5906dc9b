-- Whether a variable that the operands give passes a test, operand by operand.
use Rattle.std.proofs.Common.{◌≡◌, refl, sym, Bool, true, false, ◌||◌, List, [], ◌∷◌, filter_map, Option, Some, None}
use Rattle.std.specs.List.{list_any}

one_or : (b c : Bool) → (b || c) ≡ ((b || false) || c)
one_or true c = refl
one_or false c = refl

module _ {A B : Type 0} (test : B → Bool) (f : A → Option B) where
  any_of_first : (x : A) (xs : List A) → list_any test (filter_map f (x ∷ xs)) ≡ (list_any test (filter_map f (x ∷ [])) || list_any test (filter_map f xs))
  any_of_first x xs = by (f x) refl
    where
      by : (o : Option B) → f x ≡ o → list_any test (filter_map f (x ∷ xs)) ≡ (list_any test (filter_map f (x ∷ [])) || list_any test (filter_map f xs))
      by None e = rw e refl
      by (Some b) e = rw e (one_or (test b) (list_any test (filter_map f xs)))

  pub any_by_item : (xs : List A) → list_any (λ x. list_any test (filter_map f (x ∷ []))) xs ≡ list_any test (filter_map f xs)
  any_by_item [] = refl
  any_by_item (x ∷ xs) = rw (any_by_item xs) (sym (any_of_first x xs))
