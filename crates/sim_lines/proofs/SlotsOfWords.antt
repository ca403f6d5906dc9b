-- The words of a line as operands, one by one.
use Rattle.std.proofs.Common.{◌≡◌, refl, ap, ◌∙◌, sym, ℕ, ◌≤◌, List, [], ◌∷◌, ◌++◌, length, map, drop}
use Rattle.std.proofs.lemmas.List.{drop_all}
use Rattle.sim_language.specs.declared.shape.Role.{Role}
use Rattle.sim_language.specs.declared.shape.Role.TheVariants.{Free}
use Rattle.sim_language.specs.Lines.{Word}
use Rattle.sim_language.specs.Shapes.{Operand, side_by_side, slot_of}

-- words without roles are free
free_slots : (ws : List Word) → side_by_side [] ws ≡ map (slot_of Free) ws
free_slots [] = refl
free_slots (w ∷ ws) = ap (λ slots. slot_of Free w ∷ slots) (free_slots ws)

-- behind the last role the words are free
pub free_behind : {A : Type 0} (role_of : A → Role) (xs : List A) (at : ℕ) (slots old : List Operand) (ws all : List Word) → length xs ≤ at
    → slots ++ side_by_side (map role_of (drop at xs)) ws ≡ old ++ side_by_side (map role_of xs) all
    → slots ++ map (slot_of Free) ws ≡ old ++ side_by_side (map role_of xs) all
free_behind role_of xs at slots old ws all past h =
    ap (λ more. slots ++ more) (sym (ap (λ rest. side_by_side (map role_of rest) ws) (drop_all at xs past) ∙ free_slots ws)) ∙ h
