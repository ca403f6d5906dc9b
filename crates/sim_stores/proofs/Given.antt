-- Which item is given, and how it leaves the others.
use Rattle.std.proofs.Common.{◌≡◌, ◌≢◌, ℕ, zero, suc, ◌+◌, ◌-◌, ◌<◌, ◌≤◌, Bool, true, false, cond, List, [], ◌∷◌, ◌++◌, length, get_or, take, drop, Option, Some, None, refl, sym, ap, subst, ◌∙◌, arith, ℤ, find, ⊎_elim}
use Rattle.std.specs.List.{remove, AllWithin, HoldsAt}
use Rattle.std.proofs.lemmas.Bool.{false≢true, cases_lt}
use Rattle.std.proofs.lemmas.Option.{none-some}
use Rattle.std.proofs.lemmas.List.{take-append-drop, drop_more, get_or-take, get_or-drop, length-take-le}
use Rattle.sim_machine.specs.State.{Item}
use Rattle.sim_shared_model.specs.Shelves.{Leaves}
use Rattle.sim_stores.specs.Items.{GivesItem, is_in_range}

module _ {X : Type 0} (p : X → Bool) where
  -- the first that passes is found
  pub find_here : (xs : List X) (at : ℕ) (x : X) → at < length xs → x ≡ get_or xs at x → p x ≡ true
      → ((k : ℕ) (d : X) → k < at → p (get_or xs k d) ≡ false) → find p xs ≡ Some x
  find_here [] at x within is passes fails = absurd (omega (arith, within))
  find_here (y ∷ ys) zero x within is passes fails =
      let same : x ≡ y = is in
      ap (λ b. cond b (Some y) (find p ys)) (ap p (sym same) ∙ passes) ∙ ap Some (sym same)
  find_here (y ∷ ys) (suc at) x within is passes fails =
      ap (λ b. cond b (Some y) (find p ys)) (fails 0 y (omega arith)) ∙ find_here ys at x (omega (arith, within)) is passes (λ k d less. fails (suc k) d (omega arith))

  -- where none passes, none is found
  pub find_nowhere : (xs : List X) → ((k : ℕ) (d : X) → k < length xs → p (get_or xs k d) ≡ false) → find p xs ≡ None
  find_nowhere [] fails = refl
  find_nowhere (y ∷ ys) fails =
      ap (λ b. cond b (Some y) (find p ys)) (fails 0 y (omega arith)) ∙ find_nowhere ys (λ k d less. fails (suc k) d (omega arith))

  -- where a list has none, its first fails, and its rest has none
  pub fails_first : (b : Bool) (x : X) (o : Option X) → cond b (Some x) o ≡ None → (b ≡ false) × (o ≡ None)
  fails_first true x o h = absurd (none-some x (sym h))
  fails_first false x o h = (refl, h)

  -- where none is found, each fails
  pub none_found : (xs : List X) → find p xs ≡ None → (k : ℕ) (d : X) → k < length xs → p (get_or xs k d) ≡ false
  none_found [] none k d below = absurd (omega (arith, below))
  none_found (y ∷ ys) none zero d below = (fails_first (p y) y (find p ys) none).0
  none_found (y ∷ ys) none (suc k) d below = none_found ys (fails_first (p y) y (find p ys) none).1 k d (omega (arith, below))

  passes_step : (x y : X) (o : Option X) (b : Bool) → p x ≡ b → (o ≡ Some y → p y ≡ true) → cond b (Some x) o ≡ Some y → p y ≡ true
  passes_step x y o true is later h = let same : x ≡ y = cc in ap p (sym same) ∙ is
  passes_step x y o false is later h = later h

  -- what is found passes
  pub found_passes : (xs : List X) (y : X) → find p xs ≡ Some y → p y ≡ true
  found_passes [] y h = absurd (none-some y h)
  found_passes (x ∷ xs) y h = passes_step x y (find p xs) (p x) refl (found_passes xs y) h

module _ {X : Type 0} (xs : List X) (from : ℕ) where
  -- what holds at a place of the rest of a list holds in the list, further on by the length of what comes before
  pub holds_further : (P : X → Type 0) (i : ℕ) → HoldsAt P (drop from xs) i → HoldsAt P xs (from + i)
  holds_further P i h = λ d. subst P (get_or-drop from xs i d) (h d)

  -- where none is found before the rest, and the first n of the rest fail, all up to there fail
  pub all_fail : (p : X → Bool) (n : ℕ) → from ≤ length xs → find p (take from xs) ≡ None → AllWithin (λ y. p y ≡ false) (drop from xs) 0 n
      → AllWithin (λ y. p y ≡ false) xs 0 (from + n)
  all_fail p n few none rest = λ k d low below.
      ⊎_elim {C = p (get_or xs k d) ≡ false}
      (λ near. ap p (sym (get_or-take from xs k d near)) ∙ none_found p (take from xs) none k d (omega (arith, near, length-take-le from xs few)))
      (λ far.
      let further : from + (k - from) ≡ k = omega (arith, far) in
      ap p (ap (λ i. get_or xs i d) (sym further) ∙ sym (get_or-drop from xs (k - from) d)) ∙ rest (k - from) d (omega arith) (omega (arith, far, below)))
      (cases_lt k from)

-- the item at a place leaves, where none before it is the same
pub leaves_at : (xs : List Item) (at : ℕ) (x : Item) → at < length xs → x ≡ get_or xs at x → ((k : ℕ) (d : Item) → k < at
    → get_or xs k d ≢ x) → Leaves x xs (remove xs at)
leaves_at xs at x within is apart =
    let next : at + 1 ≡ suc at = omega arith in
    record {
      before = take at xs;
      behind = drop (suc at) xs;
      stood = sym (take-append-drop at xs) ∙ ap (λ ys. take at xs ++ ys) (drop_more xs at x within ∙ (ap (λ n. get_or xs at x ∷ drop n xs) next ∙ ap (λ y. y ∷ drop (suc at) xs) (sym is)));
      stay = refl;
      first = λ k d less. let few : k < at = omega (arith, less, length-take-le at xs (omega arith)) in
          λ same. apart k d few (sym (get_or-take at xs k d few) ∙ same);
    }

-- the first item in a range is given
pub gives_within : (xs : List Item) (least greatest : ℤ) (at : ℕ) (x : Item) (value : ℤ) → x ≡ get_or xs at x → value ≡ x.value
    → (at < length xs) × HoldsAt (λ y. is_in_range least greatest y ≡ true) xs at × AllWithin (λ y. is_in_range least greatest y ≡ false) xs 0 at
    → GivesItem (find (is_in_range least greatest) xs) xs value (remove xs at)
gives_within xs least greatest at x value is told h =
    let test : Item → Bool = is_in_range least greatest in
    let passes : test x ≡ true = ap test is ∙ h.1 x in
    let fails : (k : ℕ) (d : Item) → k < at → test (get_or xs k d) ≡ false = λ k d less. h.2 k d (omega arith) less in
    record {
      item = x;
      is = find_here test xs at x h.0 is passes fails;
      told = told;
      leaves = leaves_at xs at x h.0 is (λ k d less same. false≢true (sym (fails k d less) ∙ (ap test same ∙ passes)));
    }
