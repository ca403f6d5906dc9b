-- What holds of each element of a list and its place, as elements come and go at the end.
use Rattle.std.proofs.Common.{◌≡◌, ◌≢◌, ℕ, zero, suc, ◌+◌, ◌<◌, List, [], ◌∷◌, ◌++◌, length, get_or, map, Some, None, rules, sym, refl, ap, ◌∙◌, subst, arith, ◌⊎◌, ⊎_elim, inl, inr}
use Rattle.std.proofs.lemmas.List.{length-append}
use Rattle.std.specs.Prelude.{slice_get}

module _ {A : Type 0} where
  some_is : (x y : A) → Some x ≡ Some y → x ≡ y
  some_is x y e = grind rules

  none_is_not : (x : A) → None ≢ Some x
  none_is_not x e = grind rules

  pub none_there : (xs : List A) → xs ≡ [] → (p : ℕ) (x : A) → slice_get xs p ≡ Some x → ⊥
  none_there xs none p x e = none_is_not x (sym (ap (λ l. slice_get l p) none) ∙ e)

  pub one_more : (before after : List A) (x : A) → after ≡ before ++ x ∷ [] → length after ≡ length before + 1
  one_more before after x more = ap length more ∙ length-append before (x ∷ [])

  last_there : (rest : List A) (x : A) → slice_get (rest ++ x ∷ []) (length rest) ≡ Some x
  last_there [] x = refl
  last_there (y ∷ ys) x = last_there ys x

  front_there : (rest : List A) (x y : A) (p : ℕ) → slice_get rest p ≡ Some y → slice_get (rest ++ x ∷ []) p ≡ Some y
  front_there [] x y p e = absurd (none_is_not y e)
  front_there (z ∷ rest) x y zero e = e
  front_there (z ∷ rest) x y (suc p) e = front_there rest x y p e

  -- an element is in front of the last one, or is that
  front_or_last : (rest : List A) (x y : A) (p : ℕ) → slice_get (rest ++ x ∷ []) p ≡ Some y
      → (slice_get rest p ≡ Some y) ⊎ ((length rest ≡ p) × (x ≡ y))
  front_or_last [] x y zero e = inr (refl, some_is x y e)
  front_or_last [] x y (suc p) e = absurd (none_is_not y e)
  front_or_last (z ∷ rest) x y zero e = inl e
  front_or_last (z ∷ rest) x y (suc p) e = ⊎_elim (λ h. inl h) (λ h. inr (ap suc h.0, h.1)) (front_or_last rest x y p e)

  module _ {Q : ℕ → A → Type 0} where
    pub each_of_more : (before after : List A) (x : A) → ((p : ℕ) (y : A) → slice_get before p ≡ Some y → Q p y)
        → after ≡ before ++ x ∷ [] → Q (length before) x → (p : ℕ) (y : A) → slice_get after p ≡ Some y → Q p y
    each_of_more before after x h more last p y e =
        ⊎_elim (λ front. h p y front) (λ at. subst (λ (q : ℕ). Q q y) at.0 (subst (λ (z : A). Q (length before) z) at.1 last))
        (front_or_last before x y p (sym (ap (λ l. slice_get l p) more) ∙ e))

    pub each_of_fewer : (before after : List A) (x : A) → ((p : ℕ) (y : A) → slice_get before p ≡ Some y → Q p y)
        → before ≡ after ++ x ∷ [] → (p : ℕ) (y : A) → slice_get after p ≡ Some y → Q p y
    each_of_fewer before after x h fewer p y e = h p y (ap (λ l. slice_get l p) fewer ∙ front_there after x y p e)

    pub last_of_each : (before after : List A) (x : A) (p : ℕ) → p ≡ length after → ((q : ℕ) (y : A) → slice_get before q ≡ Some y → Q q y)
        → before ≡ after ++ x ∷ [] → Q p x
    last_of_each before after x p is h fewer =
        h p x (ap (λ l. slice_get l p) fewer ∙ (ap (λ (q : ℕ). slice_get (after ++ x ∷ []) q) is ∙ last_there after x))

-- the element at a place within a list, and what a function makes of it
pub element_at : {A B : Type 0} (f : A → B) (xs : List A) (d : B) (p : ℕ) → p < length xs
    → (x : A) × (slice_get xs p ≡ Some x) × (get_or (map f xs) p d ≡ f x)
element_at f [] d p less = absurd (omega (arith, less))
element_at f (x ∷ xs) d zero less = (x, refl, refl)
element_at f (x ∷ xs) d (suc p) less = element_at f xs d p (omega (arith, less))
