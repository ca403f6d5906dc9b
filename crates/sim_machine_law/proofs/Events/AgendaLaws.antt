-- The entry that is due stands in the agenda, and none comes before it.
use Rattle.std.proofs.Common.{◌≡◌, ◌≢◌, ◌∙◌, ap, ℕ, ◌<◌, length, slice_index_or, true, false, List, [], ◌∷◌, ◌++◌, Some, inl, inr, ◌⊎◌, refl, sym, subst, arith}
use Rattle.std.specs.Prelude.{All, AllPairs}
use Rattle.std.specs.List.{AllByRecursion, Contains}
use Rattle.std.proofs.lemmas.List.Elements.{recursion_from_All, All-contains}
use Rattle.std.proofs.lemmas.List.{get_or_default}
use Rattle.std.proofs.lemmas.Bool.{cases_eq, true_from_ne_false}
use Rattle.std.proofs.lemmas.Int.{ints}
use Rattle.std.proofs.lemmas.Bool.Decides.{nat_tests}
use Rattle.sim_types.specs.Keys.{KeyOf, IsLess}
use Rattle.sim_types.specs.declared.event.Entry.{Entry}
use Rattle.sim_machine.specs.Keys.{comes_first}
use Rattle.sim_machine.specs.Choices.{best_from}
use Rattle.sim_machine.specs.Agenda.{due}
use Rattle.sim_machine_law.proofs.Lists.BestElements.{IsRanking, IsBest, is_best, best_contained, all_beside}

pub comes_first_yes : (a b : KeyOf) → comes_first a b ≡ true → IsLess a b
comes_first_yes a b h = grind (arith, ints, nat_tests)

pub comes_first_no : (a b : KeyOf) → comes_first a b ≡ false → ¬ IsLess a b
comes_first_no a b h = λ l. grind (arith, ints, nat_tests)

IsLess-self : (a : KeyOf) → ¬ IsLess a a
IsLess-self a = λ l. grind (arith, ints)

key_onward : (a b c : KeyOf) → IsLess a b → IsLess b c → IsLess a c
key_onward a b c p q = grind (arith, ints)

key_beyond : (a b c : KeyOf) → IsLess a b → ¬ IsLess c b → IsLess a c
key_beyond a b c p q = grind (arith, ints)

pub comes_first_of : (a b : KeyOf) → IsLess a b → comes_first a b ≡ true
comes_first_of a b h = true_from_ne_false (comes_first a b) (λ no. comes_first_no a b no h)

entries_ranked : IsRanking (λ (f e : Entry). comes_first f.key e.key)
entries_ranked =
    record {
      onward = λ y m x p q. comes_first_of y.key x.key (key_onward y.key m.key x.key (comes_first_yes y.key m.key p) (comes_first_yes m.key x.key q));
      beyond = λ y m x p q. comes_first_of y.key x.key (key_beyond y.key m.key x.key (comes_first_yes y.key m.key p) (comes_first_no x.key m.key q));
    }

due_best : (es : List Entry) (m : Entry) → due es ≡ Some m → IsBest (λ f e. comes_first f.key e.key) es m
due_best es m h = is_best (λ f e. comes_first f.key e.key) entries_ranked es m h

-- the entry that is due stands in the agenda
pub due_contained : (es : List Entry) (m : Entry) → due es ≡ Some m → Contains es m
due_contained es m h = best_contained (λ f e. comes_first f.key e.key) es m (due_best es m h)

key_not_after : (a b : KeyOf) → IsLess a b → ¬ IsLess b a
key_not_after a b h = λ l. grind (arith, ints)

-- and none comes before it
pub due_first : (es : List Entry) (m : Entry) → due es ≡ Some m → All (λ f. ¬ IsLess f.key m.key) es
due_first es m h =
    all_beside (λ f e. comes_first f.key e.key) (λ f. ¬ IsLess f.key m.key) es m (due_best es m h) (IsLess-self m.key)
    (λ x p. key_not_after m.key x.key (comes_first_yes m.key x.key p))
    (λ x q. comes_first_no x.key m.key q)

-- the same by recursion
pub due_least : (es : List Entry) (m : Entry) → due es ≡ Some m → AllByRecursion (λ f. ¬ IsLess f.key m.key) es
due_least es m h = recursion_from_All (λ f. ¬ IsLess f.key m.key) es (due_first es m h)

-- m is one of es
abbrev pub Among : List Entry → Entry → Type 0
Among [] m = ⊥
Among (f ∷ fs) m = (m ≡ f) ⊎ Among fs m

among_others : (before after : List Entry) (m : Entry) → Among (before ++ m ∷ after) m
among_others [] after m = inl refl
among_others (e ∷ before) after m = inr (among_others before after m)

pub due_among : (es : List Entry) (m : Entry) → due es ≡ Some m → Among es m
due_among es m h =
    let b : IsBest (λ f e. comes_first f.key e.key) es m = due_best es m h in
    subst (λ (fs : List Entry). Among fs m) (sym b.stands) (among_others b.before b.after m)

same_number : (a b : KeyOf) → ¬ IsLess a b → ¬ IsLess b a → a.number ≡ b.number
same_number a b p q = grind (arith, ints)

apart_by_number : (es : List Entry) (x y : Entry) (i j : ℕ) → AllPairs (λ a b. a.key.number ≢ b.key.number) es → i < j
    → j < length es → slice_index_or es i x ≡ x → slice_index_or es j y ≡ y → x.key.number ≡ y.key.number → ⊥
apart_by_number es x y i j apart before below at_i at_j same =
    let number : Entry → ℕ = λ e. e.key.number in
    apart i j x before below (ap number at_i ∙ same ∙ sym (ap number (get_or_default es j x y below ∙ at_j)))

one_of_a_number : (es : List Entry) (x y : Entry) → AllPairs (λ a b. a.key.number ≢ b.key.number) es → Contains es x
    → Contains es y → x.key.number ≡ y.key.number → x ≡ y
one_of_a_number es x y apart p q same = by_place (cases_eq p.0 q.0)
  where
    by_place : (p.0 ≡ q.0) ⊎ (p.0 ≢ q.0) → x ≡ y
    by_place (inl at) = sym p.2 ∙ get_or_default es p.0 x y p.1 ∙ ap (λ (k : ℕ). slice_index_or es k y) at ∙ q.2
    by_place (inr differ) =
        let not_before : p.0 < q.0 → ⊥ = λ before. apart_by_number es x y p.0 q.0 apart before q.1 p.2 q.2 same in
        let not_after : q.0 < p.0 → ⊥ = λ before. apart_by_number es y x q.0 p.0 apart before p.1 q.2 p.2 (sym same) in
        absurd (omega (arith, not_before, not_after, differ))

-- where numbers differ, the entry before which none comes is the one that is due
pub due_only : (es : List Entry) (e : Entry) → AllPairs (λ a b. a.key.number ≢ b.key.number) es → Contains es e
    → All (λ f. ¬ IsLess f.key e.key) es → due es ≡ Some e
due_only [] e apart here first = absurd (omega (arith, here.1))
due_only (x ∷ xs) e apart here first =
    let m : Entry = best_from (λ f e. comes_first f.key e.key) x xs in
    let among : Contains (x ∷ xs) m = due_contained (x ∷ xs) m refl in
    let after : ¬ IsLess m.key e.key = All-contains (λ f. ¬ IsLess f.key e.key) (x ∷ xs) m first among in
    let before : ¬ IsLess e.key m.key = All-contains (λ f. ¬ IsLess f.key m.key) (x ∷ xs) e (due_first (x ∷ xs) m refl) here in
    ap (λ (y : Entry). Some y) (one_of_a_number (x ∷ xs) m e apart among here (same_number m.key e.key after before))
