-- Where the same is measured as before: at all places but those of the resources that were touched.
use Rattle.std.proofs.Common.{◌≡◌, ◌==◌, ◌<◌, ◌+◌, ◌∙◌, ◌||◌, ℕ, false, List, [], ◌∷◌, ◌++◌, length, refl, sym, ap, subst}
use Rattle.std.proofs.lemmas.Bool.{lt-ltb, or_parts}
use Rattle.std.proofs.lemmas.List.{length-append}
use Rattle.std.proofs.lemmas.List.Folds.{list_any-append}
use Rattle.sim_types.specs.Few.{pushed_within}
use Rattle.sim_shared_model.specs.Measuring.{ChangesOnlyAt, is_one_of}
use Rattle.sim_shared_model.specs.SharedOf.{SharedOf}
use Rattle.sim_shared_law.proofs.Shown.ShownMeasures.{changes_then, nothing_changes}

-- some are touched before the resources stay, or after it
pub touched_before : (places : List ℕ) (old mid new : SharedOf) → ChangesOnlyAt places old mid → new.resources ≡ mid.resources →
    ChangesOnlyAt places old new
touched_before places old mid new touched same = changes_then places old mid new touched (nothing_changes places mid new same)

pub touched_after : (places : List ℕ) (old mid new : SharedOf) → mid.resources ≡ old.resources → ChangesOnlyAt places mid new →
    ChangesOnlyAt places old new
touched_after places old mid new same touched = changes_then places old mid new (nothing_changes places old mid same) touched

-- these are touched, and then those
pub touched_then : (first second : List ℕ) (old mid new : SharedOf) → ChangesOnlyAt first old mid → ChangesOnlyAt second mid new →
    ChangesOnlyAt (first ++ second) old new
touched_then first second old mid new one other = record {
  others = λ at none.
      let apart : (is_one_of at first || is_one_of at second) ≡ false = sym (list_any-append (λ place. place == at) first second) ∙ none in
      let neither = or_parts (is_one_of at first) (is_one_of at second) apart in
      other.others at neither.1 ∙ one.others at neither.0;
}

-- ---- one place more is pushed, where there is room for it

module _ (most : ℕ) (places : List ℕ) (at : ℕ) (pushed : List ℕ) (is : pushed ≡ pushed_within most places at) (room : length places < most) where
  pushed_behind : pushed ≡ places ++ at ∷ []
  pushed_behind = is ∙ rw (lt-ltb (length places) most room) refl

  pub touched_more : (old mid new : SharedOf) → ChangesOnlyAt places old mid → ChangesOnlyAt (at ∷ []) mid new → ChangesOnlyAt pushed old new
  touched_more old mid new before after =
      subst (λ xs. ChangesOnlyAt xs old new) (sym pushed_behind) (touched_then places (at ∷ []) old mid new before after)

  pub pushed_length : length pushed ≡ length places + 1
  pushed_length = ap (λ (xs : List ℕ). length xs) pushed_behind ∙ length-append places (at ∷ [])
