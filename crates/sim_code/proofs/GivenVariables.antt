-- The variables that operands give, counted.
use Rattle.std.proofs.Common.{◌≡◌, refl, sym, ℕ, ◌+◌, ◌≤◌, Bool, true, false, List, ◌∷◌, length, count_by, cond, arith}
use Rattle.std.proofs.lemmas.List.Recursion.{is_count_by}
use Rattle.std.proofs.lemmas.List.Sums.{count_by-le-length}
use Rattle.sim_language.specs.Lines.{Word}
use Rattle.sim_language.specs.declared.shape.Role.{Role}
use Rattle.sim_language.specs.declared.shape.Role.TheVariants.{Parameter, Gives}
use Rattle.sim_language.specs.Shapes.{Operand}
use Rattle.sim_language.specs.Variables.{given_by}

-- the operand gives a variable
abbrev pub gives : Role → Bool
gives (Gives class) = true
gives Parameter = true
gives role = false

one_or_none : (role : Role) (word : Word) (slots : List Operand)
    → length (given_by (record { role = role; word = word } ∷ slots)) ≡ cond (gives role) (1 + length (given_by slots)) (length (given_by slots))
one_or_none (Gives class) word slots = omega arith
one_or_none Parameter word slots = omega arith
one_or_none role word slots = refl

pub count_of_given : (slots : List Operand) → count_by (λ slot. gives slot.role) slots ≡ length (given_by slots)
count_of_given slots = sym (is_count_by (λ l. length (given_by l)) (λ slot. gives slot.role) refl (λ slot more. one_or_none slot.role slot.word more) slots)

pub given_few : (slots : List Operand) (n : ℕ) → length slots ≤ n → length (given_by slots) ≤ n
given_few slots n h = omega (arith, count_of_given slots, count_by-le-length (λ slot. gives slot.role) slots)
