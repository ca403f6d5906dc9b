-- How many operands a line has.
--     may_have items n         words of this shape can be n operands
--     fit-length               words that have the shape are as many operands as it may have
use Rattle.std.proofs.Common.{◌≡◌, refl, subst, ℕ, zero, suc, Bool, true, false, ◌||◌, if◌then◌else◌, List, [], ◌∷◌, length, Option, Some, None}
use Rattle.std.proofs.lemmas.Option.{none-some, same_Some}
use Rattle.std.proofs.lemmas.Bool.{or_right}
use Rattle.sim_language.specs.declared.shape.Item.{Item}
use Rattle.sim_language.specs.declared.shape.Item.TheVariants.{Exactly, OneOf, A, Opening, EventName, NextPoster, MayEnd, Each, SpawnArguments, StartArguments}
use Rattle.sim_language.specs.Lines.{Word, same, is_among}
use Rattle.sim_language.specs.Shapes.{Operand, Context, fixed_word, choices, before_all, fit}

abbrev is_zero : ℕ → Bool
is_zero zero = true
is_zero (suc n) = false

abbrev pub may_have : List Item → ℕ → Bool
may_have [] n = is_zero n
may_have (MayEnd ∷ items) n = is_zero n || may_have items n
may_have (Each role ∷ items) n = true
may_have (SpawnArguments ∷ items) n = true
may_have (StartArguments ∷ items) n = true
may_have (Exactly word ∷ items) n = may_have items n
may_have (item ∷ items) zero = false
may_have (item ∷ items) (suc n) = may_have items n

abbrev FitLength : List Item → Option (List Operand) → Type 0
FitLength items found = (slots : List Operand) → found ≡ Some slots → may_have items (length slots) ≡ true

-- nothing is found
not_found : (items : List Item) → FitLength items None
not_found items slots h = absurd (none-some slots h)

-- no operands are found
none_found : (items : List Item) → may_have items 0 ≡ true → FitLength items (Some [])
none_found items may slots h = subst (λ some. may_have items (length some) ≡ true) (same_Some [] slots h) may

-- a test decides whether something is found
if_found : (items : List Item) (b : Bool) (found : Option (List Operand)) → FitLength items found → FitLength items (if b then found else None)
if_found items true found fits = fits
if_found items false found fits = not_found items

-- one operand in front
one_before : (items more : List Item) (slot : Operand) (found : Option (List Operand))
    → ((n : ℕ) → may_have more (suc n) ≡ may_have items n) → FitLength items found → FitLength more (before_all slot found)
one_before items more slot None longer fits = not_found more
one_before items more slot (Some rest) longer fits = λ slots h. subst (λ some. may_have more (length some) ≡ true) (same_Some (slot ∷ rest) slots h) (rw (longer (length rest)) (fits rest refl))

pub fit-length : (context : Context) (last : Word) (items : List Item) (ws : List Word) → FitLength items (fit context last items ws)
fit-length context last [] [] = none_found [] refl
fit-length context last [] (w ∷ ws) = not_found []
fit-length context last (MayEnd ∷ items) [] = none_found (MayEnd ∷ items) refl
fit-length context last (MayEnd ∷ items) (w ∷ ws) = λ slots h. or_right (is_zero (length slots)) (may_have items (length slots)) (fit-length context last items (w ∷ ws) slots h)
fit-length context last (Each role ∷ items) ws = λ slots h. refl
fit-length context last (SpawnArguments ∷ items) ws = λ slots h. refl
fit-length context last (StartArguments ∷ items) ws = λ slots h. refl
fit-length context last (Exactly word ∷ items) [] = not_found (Exactly word ∷ items)
fit-length context last (Exactly word ∷ items) (w ∷ ws) = if_found (Exactly word ∷ items) (same w (fixed_word word)) (fit context w items ws) (fit-length context w items ws)
fit-length context last (OneOf choice ∷ items) (w ∷ ws) = if_found (OneOf choice ∷ items) (is_among w (choices choice)) _ (one_before items (OneOf choice ∷ items) _ (fit context w items ws) (λ n. refl) (fit-length context w items ws))
fit-length context last (A role ∷ items) (w ∷ ws) = one_before items (A role ∷ items) _ (fit context w items ws) (λ n. refl) (fit-length context w items ws)
fit-length context last (Opening ∷ items) (w ∷ ws) = one_before items (Opening ∷ items) _ (fit context w items ws) (λ n. refl) (fit-length context w items ws)
fit-length context last (EventName ∷ items) (w ∷ ws) = one_before items (EventName ∷ items) _ (fit context w items ws) (λ n. refl) (fit-length context w items ws)
fit-length context last (NextPoster ∷ items) (w ∷ ws) = one_before items (NextPoster ∷ items) _ (fit context w items ws) (λ n. refl) (fit-length context w items ws)
fit-length context last (item ∷ items) [] = not_found (item ∷ items)
