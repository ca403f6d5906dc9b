-- Fronts of lists.
--     begins_next       a front and the item behind it are a front
--     begins_item       the last item of a front stands at its place in the list
--     front_by          what other items follow is a front
use Rattle.std.proofs.Common.{◌≡◌, ℕ, zero, suc, List, [], ◌∷◌, ◌++◌, length, drop, Some, refl, sym, ap, ◌∙◌, arith, append_assoc}
use Rattle.std.specs.Prelude.{slice_get}
use Rattle.std.proofs.Math.Seq.{drop-append_seam}
use Rattle.std.proofs.lemmas.Option.{slice_get_within}

module _ {A : Type 0} where
  pub front_by : (front rest whole : List A) → front ++ rest ≡ whole → front ++ drop (length front) whole ≡ whole
  front_by front rest whole is =
      ap (λ l. front ++ drop (length front) l) (sym is) ∙ (ap (λ l. front ++ l) (drop-append_seam front rest) ∙ is)

  pub item_at : (front rest : List A) (x : A) → slice_get (front ++ x ∷ rest) (length front) ≡ Some x
  item_at [] rest x = refl
  item_at (y ∷ front) rest x = item_at front rest x

  pub item_parts : (whole : List A) (n : ℕ) (x : A) → slice_get whole n ≡ Some x → drop n whole ≡ x ∷ drop (suc n) whole
  item_parts [] n x at = absurd (omega (arith, slice_get_within [] n x at))
  item_parts (y ∷ whole) zero x at = cc
  item_parts (y ∷ whole) (suc n) x at = item_parts whole n x at

  pub begins_next : (front whole : List A) (x : A) → front ++ drop (length front) whole ≡ whole → slice_get whole (length front) ≡ Some x
      → (front ++ x ∷ []) ++ drop (length (front ++ x ∷ [])) whole ≡ whole
  begins_next front whole x begins at =
      front_by (front ++ x ∷ []) (drop (suc (length front)) whole) whole
      (append_assoc front (x ∷ []) (drop (suc (length front)) whole) ∙ (ap (λ l. front ++ l) (sym (item_parts whole (length front) x at)) ∙ begins))

  pub begins_item : (front whole : List A) (x : A) → (front ++ x ∷ []) ++ drop (length (front ++ x ∷ [])) whole ≡ whole
      → slice_get whole (length front) ≡ Some x
  begins_item front whole x begins =
      let rest = drop (length (front ++ x ∷ [])) whole in
      ap (λ l. slice_get l (length front)) (sym begins ∙ append_assoc front (x ∷ []) rest) ∙ item_at front rest x

  pub begins_none : (front : List A) → front ++ drop (length front) [] ≡ [] → front ≡ []
  begins_none [] h = refl
  begins_none (x ∷ front) h = absurd (omega (arith, ap length h))
