-- The open blocks as the code keeps them: a list with the innermost last, which is empty outside of processes.
use Rattle.std.proofs.Common.{◌≡◌, refl, sym, ap, ◌∙◌, ℕ, suc, ◌+◌, ◌<◌, Bool, true, false, cond, List, [], ◌∷◌, ◌++◌, length, get_or, set, take, drop, reverse, Some, None, unwrap_or, option_map, arith, drop-cons}
use Rattle.std.proofs.lemmas.List.{reverse-append, set_split, take-append-drop}
use Rattle.std.proofs.lemmas.Grind.{common_steps}
use Rattle.sim_language.specs.Blocks.{Block, split_first}

module _ {A : Type 0} where
  pub blocks_of_stack : (in_process : Bool) (stack : List A) → (in_process ≡ false → stack ≡ [])
      → unwrap_or (cond in_process (Some (reverse stack)) None) [] ≡ reverse stack
  blocks_of_stack true stack empty = refl
  blocks_of_stack false stack empty = rw (empty refl) refl

  nothing_behind : (stack : List A) (i : ℕ) → i + 1 ≡ length stack → drop (suc i) stack ≡ []
  nothing_behind stack i last = grind (arith, common_steps)

  pub reverse-set_last : (stack : List A) (i : ℕ) (b : A) → i + 1 ≡ length stack → reverse (set stack i b) ≡ b ∷ reverse (take i stack)
  reverse-set_last stack i b last =
      let inside : i < length stack = omega arith in
      ap reverse (set_split stack i b inside ∙ ap (λ rest. take i stack ++ b ∷ rest) (nothing_behind stack i last))
      ∙ reverse-append (take i stack) (b ∷ [])

  pub reverse_by_last : (stack : List A) (i : ℕ) (b : A) → i + 1 ≡ length stack → b ≡ get_or stack i b → reverse stack ≡ b ∷ reverse (take i stack)
  reverse_by_last stack i b last is =
      let inside : i < length stack = omega arith in
      ap reverse (sym (take-append-drop i stack) ∙ ap (λ rest. take i stack ++ rest) (drop-cons stack i b inside ∙ rw (← is) (ap (λ rest. b ∷ rest) (nothing_behind stack i last))))
      ∙ reverse-append (take i stack) (b ∷ [])

-- the innermost block is split
pub split_last : (in_process : Bool) (stack : List Block) (i : ℕ) (b was : Block) → b ≡ was → i + 1 ≡ length stack
    → was ≡ get_or stack i was
    → cond in_process (Some (reverse (set stack i (record b { split = true })))) None ≡ option_map split_first (cond in_process (Some (reverse stack)) None)
split_last true stack i b was same last is = rw (same, reverse-set_last stack i (record was { split = true }) last, reverse_by_last stack i was last is) refl
split_last false stack i b was same last is = refl

-- where no block is open, none is split
pub split_none : (in_process : Bool) (stack : List Block) → stack ≡ []
    → cond in_process (Some (reverse stack)) None ≡ option_map split_first (cond in_process (Some (reverse stack)) None)
split_none true stack empty = rw empty refl
split_none false stack empty = refl
