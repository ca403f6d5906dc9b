-- Items in the order of their numbers.
use Rattle.std.proofs.Common.{◌≡◌, ◌≢◌, ◌==◌, ℕ, zero, suc, ◌<◌, Bool, true, false, cond, List, [], ◌∷◌, ◌++◌, Option, Some, None, option_map, option_to_list, refl, sym, ap, subst, ◌∙◌, append_assoc, inl, inr, arith, All, find}
use Rattle.std.proofs.lemmas.Bool.{cases_eq}
use Rattle.std.proofs.lemmas.Bool.Decides.{nat_tests}
use Rattle.std.proofs.lemmas.List.Elements.{All-cons, All-nil, All-head, All-tail, All-append}
use Rattle.sim_machine.specs.State.{Item}
use Rattle.sim_stores.specs.declared.heap.Ranked.{Ranked}
use Rattle.sim_stores.specs.RankedItems.{item_of_number, items_below}

-- ---- the item of a number

is_number : (m n : ℕ) → m ≡ n → (m == n) ≡ true
is_number m n e = grind (arith, nat_tests)

other_number : (m n : ℕ) → m ≢ n → (m == n) ≡ false
other_number m n e = grind (arith, nat_tests)

same_number : (m n : ℕ) → (m == n) ≡ true → m ≡ n
same_number m n e = grind (arith, nat_tests)

some_is : (i j : Item) → Some i ≡ Some j → i ≡ j
some_is i j h = cc

none_is_not : (i : Item) → None ≡ Some i → ⊥
none_is_not i h = cc

-- the first of these has the number
pub numbered_first : (x : Ranked) (xs : List Ranked) (n : ℕ) → x.number ≡ n → item_of_number n (x ∷ xs) ≡ Some x.item
numbered_first x xs n e = ap (λ b. option_map (λ (y : Ranked). y.item) (cond b (Some x) (find (λ y. y.number == n) xs))) (is_number x.number n e)

-- it has another
pub numbered_later : (x : Ranked) (xs : List Ranked) (n : ℕ) → x.number ≢ n → item_of_number n (x ∷ xs) ≡ item_of_number n xs
numbered_later x xs n e = ap (λ b. option_map (λ (y : Ranked). y.item) (cond b (Some x) (find (λ y. y.number == n) xs))) (other_number x.number n e)

-- none has it
pub numbered_nowhere : (xs : List Ranked) (n : ℕ) → All (λ x. x.number ≢ n) xs → item_of_number n xs ≡ None
numbered_nowhere [] n h = refl
numbered_nowhere (x ∷ xs) n h =
    numbered_later x xs n (All-head (λ y. y.number ≢ n) x xs h) ∙ numbered_nowhere xs n (All-tail (λ y. y.number ≢ n) x xs h)

first_or_later : (P : Item → Type 0) (x : Ranked) (o : Option Ranked) (b : Bool) (i : Item) → option_map (λ (y : Ranked). y.item) (cond b (Some x) o) ≡ Some i
    → (b ≡ true → P x.item) → (option_map (λ (y : Ranked). y.item) o ≡ Some i → P i) → P i
first_or_later P x o true i h first later = subst P (some_is x.item i h) (first refl)
first_or_later P x o false i h first later = later h

-- what holds of each item with this number holds of the one that is found
pub numbered_with : (P : Item → Type 0) (xs : List Ranked) (n : ℕ) (i : Item) → All (λ x. x.number ≡ n → P x.item) xs → item_of_number n xs ≡ Some i → P i
numbered_with P [] n i all h = absurd (none_is_not i h)
numbered_with P (x ∷ xs) n i all h =
    let Q : Ranked → Type 0 = λ y. y.number ≡ n → P y.item in
    first_or_later P x (find (λ y. y.number == n) xs) (x.number == n) i h (λ same. All-head Q x xs all (same_number x.number n same)) (numbered_with P xs n i (All-tail Q x xs all))

-- ---- the items in order

-- lists that have the same items at all numbers that are less
pub same_below : (n : ℕ) (xs ys : List Ranked) → ((k : ℕ) → k < n → item_of_number k xs ≡ item_of_number k ys) → items_below n xs ≡ items_below n ys
same_below zero xs ys h = refl
same_below (suc n) xs ys h =
    ap (λ is. is ++ option_to_list (item_of_number n xs)) (same_below n xs ys (λ k less. h k (omega (arith, less))))
    ∙ ap (λ o. items_below n ys ++ option_to_list o) (h n (omega arith))

all_if_any : (P : Item → Type 0) (o : Option Item) → ((i : Item) → o ≡ Some i → P i) → All P (option_to_list o)
all_if_any P None h = All-nil P
all_if_any P (Some i) h = All-cons P i [] (h i refl) (All-nil P)

-- what holds of each of them holds of all
pub all_below : (P : Item → Type 0) (n : ℕ) (xs : List Ranked) → ((k : ℕ) (i : Item) → k < n → item_of_number k xs ≡ Some i → P i) → All P (items_below n xs)
all_below P zero xs h = All-nil P
all_below P (suc n) xs h =
    All-append P (items_below n xs) (option_to_list (item_of_number n xs)) (all_below P n xs (λ k i less. h k i (omega (arith, less))))
    (all_if_any P (item_of_number n xs) (λ i. h n i (omega arith)))

-- the item of the next number comes last
pub next_last : (n m : ℕ) (xs ys : List Ranked) (i : Item) → m ≡ suc n → ((k : ℕ) → k < n → item_of_number k ys ≡ item_of_number k xs)
    → item_of_number n ys ≡ Some i → items_below m ys ≡ items_below n xs ++ i ∷ []
next_last n m xs ys i next same last =
    ap (λ k. items_below k ys) next
    ∙ (ap (λ is. is ++ option_to_list (item_of_number n ys)) (same_below n ys xs same) ∙ ap (λ o. items_below n xs ++ option_to_list o) last)

-- the item of one number is in the one list, and no other is missing in the other
pub record Splits (P : Item → Type 0) (n k : ℕ) (xs ys : List Ranked) (i : Item) : Type 0 where
  pub behind : List Item
  pub stood : items_below n xs ≡ items_below k xs ++ i ∷ behind
  pub stay : items_below n ys ≡ items_below k xs ++ behind
  pub rest : All P behind

module _ (P : Item → Type 0) (k : ℕ) (xs ys : List Ranked) (i : Item) (here : item_of_number k xs ≡ Some i) (gone : item_of_number k ys ≡ None)
    (same : (m : ℕ) → m ≢ k → item_of_number m ys ≡ item_of_number m xs) (others : (m : ℕ) (j : Item) → m ≢ k → item_of_number m xs ≡ Some j → P j) where
  splits_here : (n : ℕ) → k ≡ n → Splits P (suc n) k xs ys i
  splits_here n at =
      let is : item_of_number n xs ≡ Some i = subst (λ m. item_of_number m xs ≡ Some i) at here in
      let none : item_of_number n ys ≡ None = subst (λ m. item_of_number m ys ≡ None) at gone in
      record {
        behind = [];
        stood = ap (λ o. items_below n xs ++ option_to_list o) is ∙ ap (λ m. items_below m xs ++ i ∷ []) (sym at);
        stay = ap (λ is. is ++ option_to_list (item_of_number n ys)) (same_below n ys xs (λ m less. same m (λ e. absurd (omega arith))))
            ∙ (ap (λ o. items_below n xs ++ option_to_list o) none ∙ ap (λ m. items_below m xs ++ []) (sym at));
        rest = All-nil P;
      }

  splits_before : (n : ℕ) → k ≢ n → Splits P n k xs ys i → Splits P (suc n) k xs ys i
  splits_before n off s =
      let o : List Item = option_to_list (item_of_number n xs) in
      record {
        behind = s.behind ++ o;
        stood = ap (λ is. is ++ o) s.stood ∙ append_assoc (items_below k xs) (i ∷ s.behind) o;
        stay = ap (λ p. items_below n ys ++ option_to_list p) (same n (λ e. off (sym e))) ∙ (ap (λ is. is ++ o) s.stay ∙ append_assoc (items_below k xs) s.behind o);
        rest = All-append P s.behind o s.rest (all_if_any P (item_of_number n xs) (λ j. others n j (λ e. off (sym e))));
      }

  -- so it stands in its place
  pub splits : (n : ℕ) → k < n → Splits P n k xs ys i
  splits zero less = absurd (omega (arith, less))
  splits (suc n) less =
      elim (cases_eq k n) [
        | inl at ↦ splits_here n at
        | inr off ↦ splits_before n off (splits n (omega (arith, less)))
      ]
