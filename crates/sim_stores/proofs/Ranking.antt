-- The items of a priority store: one more, and the least one taken out.
use Rattle.std.proofs.Common.{◌≡◌, ◌≢◌, ℕ, suc, ◌<◌, Bool, true, false, List, [], ◌∷◌, ◌++◌, length, Some, None, refl, sym, ap, ◌∙◌, arith, All, AllPairs, ℤ, option_map}
use Rattle.std.specs.Prelude.{int_lt}
use Rattle.std.specs.Ordering.{is_lt}
use Rattle.std.specs.BinaryHeap.{IsHeap, IsUpperBound}
use Rattle.std.specs.List.Sorted.{IsPermutation}
use Rattle.std.proofs.lemmas.Bool.Decides.{nat_tests}
use Rattle.std.proofs.lemmas.Int.{ints}
use Rattle.std.proofs.lemmas.List.{length_push, length-append}
use Rattle.std.proofs.lemmas.List.Elements.{All-cons, All-tail, All-head, All-weaker, All-from_recursion}
use Rattle.std.proofs.lemmas.List.Kept.{AllPairs-cons}
use Rattle.std.proofs.lemmas.List.Sorted.{All-permutation, length_permutation}
use Rattle.sim_types.proofs.Permutations.{Differ, AllPairs-head, AllPairs-tail, AllPairs-IsPermutation, find-IsPermutation}
use Rattle.sim_machine.specs.State.{Item}
use Rattle.sim_machine.specs.Users.{least_item}
use Rattle.sim_stores.specs.declared.heap.Ranked.{Ranked}
use Rattle.sim_stores.specs.Items.{GivesItem}
use Rattle.sim_stores.specs.RankedItems.{rank_cmp, item_of_number, items_below, IsSoundHeap}
use Rattle.sim_stores.proofs.Choosing.{best_between}
use Rattle.sim_stores.proofs.Numbering.{numbered_first, numbered_later, numbered_nowhere, numbered_with, all_below, next_last, Splits, splits}

abbrev number : Ranked → ℕ
number x = x.number

turned : (x y : Ranked) → Differ number x y → Differ number y x
turned x y h = λ e. h (sym e)

-- an item is found in any order
rearranged : (n : ℕ) (xs ys : List Ranked) → IsPermutation xs ys → AllPairs (Differ number) xs → item_of_number n xs ≡ item_of_number n ys
rearranged n xs ys h differ = ap (λ o. option_map (λ (x : Ranked). x.item) o) (find-IsPermutation number n xs ys h differ)

-- ---- one more

module _ (xs ys : List Ranked) (x : Ranked) (next after : ℕ) (h : IsSoundHeap xs next) (last : x.number ≡ next) (more : after ≡ suc next)
    (moved : IsPermutation (x ∷ xs) ys) where
  joined_differ : AllPairs (Differ number) (x ∷ xs)
  joined_differ =
      AllPairs-cons (Differ number) x xs
      (All-weaker (λ y. y.number < next) (Differ number x) (λ y less e. absurd (omega (arith, less, last, e))) xs h.below) h.differ

  joined_same : (k : ℕ) → k < next → item_of_number k ys ≡ item_of_number k xs
  joined_same k less = sym (rearranged k (x ∷ xs) ys moved joined_differ) ∙ numbered_later x xs k (λ e. absurd (omega (arith, less, last, e)))

  joined_last : item_of_number next ys ≡ Some x.item
  joined_last = sym (rearranged next (x ∷ xs) ys moved joined_differ) ∙ numbered_first x xs next last

  pub joined_items : items_below after ys ≡ items_below next xs ++ x.item ∷ []
  joined_items = next_last next after xs ys x.item more joined_same joined_last

  pub joined_sound : IsHeap rank_cmp ys → IsSoundHeap ys after
  joined_sound heap =
      record {
        heap = heap;
        differ = AllPairs-IsPermutation (Differ number) turned (x ∷ xs) ys moved joined_differ;
        below = All-permutation (λ y. y.number < after) (x ∷ xs) ys moved
            (All-cons (λ y. y.number < after) x xs (omega (arith, last, more)) (All-weaker (λ y. y.number < next) (λ y. y.number < after) (λ y less. omega (arith, less, more)) xs h.below));
        counted = omega (arith, ap length joined_items, length_push (items_below next xs) x.item, length_permutation (x ∷ xs) ys moved, h.counted);
      }

-- ---- the least one

-- one that is not less is given first: by its priority, and among equals by its number
not_after : (x y : Ranked) → is_lt (rank_cmp x y) ≡ false → int_lt y.item.priority x.item.priority ≡ false
not_after x y h = grind (arith, ints, nat_tests)

before : (x y : Ranked) → is_lt (rank_cmp x y) ≡ false → y.number < x.number → int_lt x.item.priority y.item.priority ≡ true
before x y h less = grind (arith, ints, nat_tests)

not_itself : (a : ℤ) → int_lt a a ≡ true → ⊥
not_itself a h = grind (arith, ints, nat_tests)

module _ (xs ys : List Ranked) (x : Ranked) (next : ℕ) (h : IsSoundHeap xs next) (moved : IsPermutation xs (x ∷ ys)) (top : IsUpperBound rank_cmp x ys) where
  parted_differ : AllPairs (Differ number) (x ∷ ys)
  parted_differ = AllPairs-IsPermutation (Differ number) turned xs (x ∷ ys) moved h.differ

  parted_below : All (λ y. y.number < next) (x ∷ ys)
  parted_below = All-permutation (λ y. y.number < next) xs (x ∷ ys) moved h.below

  least : All (λ y. is_lt (rank_cmp x y) ≡ false) ys
  least = All-from_recursion (λ y. is_lt (rank_cmp x y) ≡ false) ys top

  gone : item_of_number x.number ys ≡ None
  gone = numbered_nowhere ys x.number (All-weaker (Differ number x) (λ y. y.number ≢ x.number) (λ y d e. d (sym e)) ys (AllPairs-head (Differ number) x ys parted_differ))

  here : item_of_number x.number xs ≡ Some x.item
  here = rearranged x.number xs (x ∷ ys) moved h.differ ∙ numbered_first x ys x.number refl

  same : (m : ℕ) → m ≢ x.number → item_of_number m ys ≡ item_of_number m xs
  same m off = sym (rearranged m xs (x ∷ ys) moved h.differ ∙ numbered_later x ys m (λ e. off (sym e)))

  -- each other item comes no earlier
  others : (m : ℕ) (j : Item) → m ≢ x.number → item_of_number m xs ≡ Some j → int_lt j.priority x.item.priority ≡ false
  others m j off is =
      numbered_with (λ i. int_lt i.priority x.item.priority ≡ false) ys m j
      (All-weaker (λ y. is_lt (rank_cmp x y) ≡ false) (λ y. y.number ≡ m → int_lt y.item.priority x.item.priority ≡ false) (λ y less e. not_after x y less) ys least)
      (same m off ∙ is)

  earlier : All (λ i. int_lt x.item.priority i.priority ≡ true) (items_below x.number xs)
  earlier = all_below (λ i. int_lt x.item.priority i.priority ≡ true) x.number xs (λ m i less is.
      numbered_with (λ j. int_lt x.item.priority j.priority ≡ true) ys m i
      (All-weaker (λ y. is_lt (rank_cmp x y) ≡ false) (λ y. y.number ≡ m → int_lt x.item.priority y.item.priority ≡ true) (λ y le e. before x y le (omega (arith, less, e))) ys least)
      (same m (λ e. absurd (omega (arith, less, e))) ∙ is))

  split : Splits (λ i. int_lt i.priority x.item.priority ≡ false) next x.number xs ys x.item
  split = splits (λ i. int_lt i.priority x.item.priority ≡ false) x.number xs ys x.item here gone same others next (All-head (λ y. y.number < next) x ys parted_below)

  -- it is given, and leaves
  pub parted_gives : (value : ℤ) → value ≡ x.item.value → GivesItem (least_item (items_below next xs)) (items_below next xs) value (items_below next ys)
  parted_gives value told =
      let s = split in
      let prior : Item → Item → Bool = λ i j. int_lt i.priority j.priority in
      record {
        item = x.item;
        is = ap least_item s.stood ∙ best_between prior x.item (items_below x.number xs) s.behind earlier s.rest;
        told = told;
        leaves = record {
          before = items_below x.number xs;
          behind = s.behind;
          stood = s.stood;
          stay = s.stay;
          first = All-weaker (λ i. int_lt x.item.priority i.priority ≡ true) (λ i. i ≢ x.item)
              (λ i less e. not_itself x.item.priority (ap (λ (j : Item). int_lt x.item.priority j.priority) (sym e) ∙ less)) (items_below x.number xs) earlier;
        };
      }

  pub parted_sound : IsHeap rank_cmp ys → IsSoundHeap ys next
  parted_sound heap =
      let s = split in
      record {
        heap = heap;
        differ = AllPairs-tail (Differ number) x ys parted_differ;
        below = All-tail (λ y. y.number < next) x ys parted_below;
        counted = omega (arith, ap length s.stood, ap length s.stay, length-append (items_below x.number xs) (x.item ∷ s.behind), length-append (items_below x.number xs) s.behind, length_permutation xs (x ∷ ys) moved, h.counted);
      }
