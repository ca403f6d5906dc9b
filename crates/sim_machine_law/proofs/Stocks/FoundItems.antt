-- Which item a get is given, and that no get that waits after a try of a filter store finds one.
use Rattle.std.proofs.Common.{◌≡◌, ◌≢◌, ℕ, ℤ, ◌<ℤ◌, ◌≤ℤ◌, Bool, true, false, ◌&&◌, List, [], ◌∷◌, ◌++◌, Some, None, refl, subst, ap, ◌∙◌, if◌then◌else◌, cond, All, arith}
use Rattle.std.specs.Prelude.{int_lt, int_le, find}
use Rattle.std.proofs.lemmas.Bool.{ne_eqb, eq-eqb}
use Rattle.std.proofs.lemmas.Bool.Decides.{nat_tests}
use Rattle.std.proofs.lemmas.Int.{ints}
use Rattle.std.proofs.lemmas.List.{append-nil}
use Rattle.std.proofs.lemmas.List.Elements.{All-nil, All-cons, All-weaker}
use Rattle.sim_types.specs.declared.event.EventId.{EventId}
use Rattle.sim_types.specs.declared.setup.ResourceKind.TheVariants as resource
use Rattle.sim_machine.specs.State.{Item, Deed, Deposited, Taken}
use Rattle.sim_machine.specs.Users.{item_by, items, least_item, item_for}
use Rattle.sim_machine_law.specs.Stocks.{items_besides, IsFirstLeast, IsInRange, IsFirstInRange}
use Rattle.sim_machine_law.proofs.Lists.BestElements.{IsRanking, IsBest, is_best}
use Rattle.sim_machine_law.proofs.Ledger.LedgerSteps.{all_stay, items_step}

-- ---- the least by priority

lower_onward : (a b c : ℤ) → int_lt a b ≡ true → int_lt b c ≡ true → int_lt a c ≡ true
lower_onward a b c p q = grind (arith, ints, nat_tests)

lower_beyond : (a b c : ℤ) → int_lt a b ≡ true → int_lt c b ≡ false → int_lt a c ≡ true
lower_beyond a b c p q = grind (arith, ints, nat_tests)

lower_yes : (a b : ℤ) → int_lt a b ≡ true → a <ℤ b
lower_yes a b h = grind (arith, ints, nat_tests)

lower_no : (a b : ℤ) → int_lt a b ≡ false → b ≤ℤ a
lower_no a b h = grind (arith, ints, nat_tests)

abbrev is_lower : Item → Item → Bool
is_lower y x = int_lt y.priority x.priority

items_ranked : IsRanking is_lower
items_ranked =
    record {
      onward = λ y m x p q. lower_onward y.priority m.priority x.priority p q;
      beyond = λ y m x p q. lower_beyond y.priority m.priority x.priority p q;
    }

pub first_least : (xs : List Item) (x : Item) → least_item xs ≡ Some x → IsFirstLeast xs x
first_least xs x h =
    let b : IsBest is_lower xs x = is_best is_lower items_ranked xs x h in
    record {
      put_before = b.before;
      put_after = b.after;
      stands = b.stands;
      all_greater = All-weaker (λ y. is_lower x y ≡ true) (λ y. x.priority <ℤ y.priority) (λ y k. lower_yes x.priority y.priority k) b.before b.earlier;
      none_less = All-weaker (λ y. is_lower y x ≡ false) (λ y. x.priority ≤ℤ y.priority) (λ y k. lower_no y.priority x.priority k) b.after b.later;
    }

-- ---- the first in a range

range_yes : (a b n : ℤ) → (int_le a n && int_le n b) ≡ true → (a ≤ℤ n) × (n ≤ℤ b)
range_yes a b n h = (grind (arith, ints, nat_tests), grind (arith, ints, nat_tests))

range_no : (a b n : ℤ) → (int_le a n && int_le n b) ≡ false → (a ≤ℤ n) × (n ≤ℤ b) → ⊥
range_no a b n h l = grind (arith, ints, nat_tests)

module _ (least greatest : ℤ) where
  abbrev fits : Item → Bool
  fits x = int_le least x.value && int_le x.value greatest

  first_found : (y : Item) (ys : List Item) (x : Item) (b : Bool) → fits y ≡ b → (find fits ys ≡ Some x → IsFirstInRange least greatest ys x) →
      cond b (Some y) (find fits ys) ≡ Some x → IsFirstInRange least greatest (y ∷ ys) x
  first_found y ys x true is later h =
      let same : y ≡ x = cc in
      record {
        put_before = [];
        put_after = ys;
        stands = ap (λ (z : Item). z ∷ ys) same;
        fits = subst (IsInRange least greatest) same (range_yes least greatest y.value is);
        none_before = All-nil (λ z. ¬ IsInRange least greatest z);
      }
  first_found y ys x false is later h =
      let k : IsFirstInRange least greatest ys x = later h in
      record {
        put_before = y ∷ k.put_before;
        put_after = k.put_after;
        stands = ap (λ (zs : List Item). y ∷ zs) k.stands;
        fits = k.fits;
        none_before = All-cons (λ z. ¬ IsInRange least greatest z) y k.put_before (range_no least greatest y.value is) k.none_before;
      }

  pub first_in_range : (xs : List Item) (x : Item) → find fits xs ≡ Some x → IsFirstInRange least greatest xs x
  first_in_range [] x h = absurd (cc)
  first_in_range (y ∷ ys) x h = first_found y ys x (fits y) refl (first_in_range ys x) h

  none_found : (y : Item) (ys : List Item) (b : Bool) → fits y ≡ b → (find fits ys ≡ None → All (λ z. ¬ IsInRange least greatest z) ys) →
      cond b (Some y) (find fits ys) ≡ None → All (λ z. ¬ IsInRange least greatest z) (y ∷ ys)
  none_found y ys true is later h = absurd (cc)
  none_found y ys false is later h = All-cons (λ z. ¬ IsInRange least greatest z) y ys (range_no least greatest y.value is) (later h)

  pub none_in_range : (xs : List Item) → find fits xs ≡ None → All (λ z. ¬ IsInRange least greatest z) xs
  none_in_range [] h = All-nil (λ z. ¬ IsInRange least greatest z)
  none_in_range (y ∷ ys) h = none_found y ys (fits y) refl (none_in_range ys) h

-- ---- a store gives the first item put

pub first_put : (least greatest : ℤ) (xs : List Item) (x : Item) → item_for resource.Store least greatest xs ≡ Some x →
    (later : List Item) × (xs ≡ x ∷ later)
first_put least greatest [] x h = absurd (cc)
first_put least greatest (y ∷ ys) x h = (ys, ap (λ (z : Item). z ∷ ys) (same y x h))
  where
    same : (y x : Item) → Some y ≡ Some x → y ≡ x
    same y x h = cc

pub none_in_store : (least greatest : ℤ) (xs : List Item) → item_for resource.Store least greatest xs ≡ None → xs ≡ []
none_in_store least greatest [] h = refl
none_in_store least greatest (y ∷ ys) h = absurd (cc)

pub none_in_priority_store : (least greatest : ℤ) (xs : List Item) → item_for resource.PStore least greatest xs ≡ None → xs ≡ []
none_in_priority_store least greatest [] h = refl
none_in_priority_store least greatest (y ∷ ys) h = absurd (cc)

-- ---- the items after a deed

here : (res : ℕ) (x : Item) → item_by res (Deposited res x) [] ≡ x ∷ []
here res x = ap (λ (b : Bool). if b && true then x ∷ [] else []) (eq-eqb res res refl)

elsewhere : (n res : ℕ) (x : Item) → res ≢ n → item_by n (Deposited res x) [] ≡ []
elsewhere n res x differ = ap (λ (b : Bool). if b && true then x ∷ [] else []) (ne_eqb res n differ)

pub items_elsewhere : (n res : ℕ) (x : Item) (ledger : List Deed) → res ≢ n → items n (ledger ++ Deposited res x ∷ []) ≡ items n ledger
items_elsewhere n res x ledger differ =
    items_step n (Deposited res x) ledger ∙ ap (λ (xs : List Item). xs ++ item_by n (Deposited res x) []) (all_stay (items n ledger)) ∙ ap (λ (xs : List Item). items n ledger ++ xs) (elsewhere n res x differ) ∙ append-nil (items n ledger)

pub items_deposited : (res : ℕ) (x : Item) (ledger : List Deed) → items res (ledger ++ Deposited res x ∷ []) ≡ items res ledger ++ x ∷ []
items_deposited res x ledger =
    items_step res (Deposited res x) ledger ∙ ap (λ (xs : List Item). xs ++ item_by res (Deposited res x) []) (all_stay (items res ledger)) ∙ ap (λ (xs : List Item). items res ledger ++ xs) (here res x)

pub items_taken : (n res : ℕ) (put : EventId) (ledger : List Deed) → items n (ledger ++ Taken res put ∷ []) ≡ items_besides put (items n ledger)
items_taken n res put ledger = items_step n (Taken res put) ledger ∙ append-nil (items_besides put (items n ledger))
