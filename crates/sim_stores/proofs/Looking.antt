-- How far a try looks along a queue.
use Rattle.std.proofs.Common.{◌≡◌, ℕ, ◌+◌, ◌<◌, ◌≤◌, ℤ, List, [], ◌∷◌, length, take, get_or, None, refl, sym, subst, ◌∙◌, arith, All}
use Rattle.std.proofs.lemmas.List.{take_all, take_more, get_or_default}
use Rattle.std.proofs.lemmas.List.Elements.{All-push}
use Rattle.sim_machine.specs.Trying.{Reach, First, WhileServed, get_reach}
use Rattle.sim_machine.specs.Trying as trying
use Rattle.sim_shared_model.specs.declared.stock.WaitingGet.{WaitingGet}
use Rattle.sim_stores.specs.declared.stock.Stock.{Stock}
use Rattle.sim_shared_model.specs.StoreQueues.{looked_at}
use Rattle.sim_stores.specs.Items.{ItemsOf, GivesItem}
use Rattle.sim_stores.specs.Stocks.{kind_of_stock, items_of_stock}
use Rattle.sim_shared_model.specs.Shelves.{store_kind, given_to}
use Rattle.sim_stores.specs.Finding.{given_from, FindsGet}

module _ {W : Type 0} where
  -- those that are looked at stand at the front
  pub looked_front : (reach : Reach) (ws : List W) → take (length (looked_at reach ws)) ws ≡ looked_at reach ws
  looked_front First [] = refl
  looked_front First (w ∷ ws) = refl
  looked_front WhileServed [] = refl
  looked_front WhileServed (w ∷ ws) = refl
  looked_front trying.All ws = take_all (length ws) ws (omega arith)

  pub looked_few : (reach : Reach) (ws : List W) → length (looked_at reach ws) ≤ length ws
  looked_few First [] = omega arith
  looked_few First (w ∷ ws) = omega arith
  looked_few WhileServed [] = omega arith
  looked_few WhileServed (w ∷ ws) = omega arith
  looked_few trying.All ws = omega arith

  -- one more of the front
  pub front_more : (P : W → Type 0) (ws : List W) (i : ℕ) (w : W) → i < length ws → w ≡ get_or ws i w → All P (take i ws) → P w → All P (take (i + 1) ws)
  front_more P ws i w within is all one =
      subst (All P) (sym (take_more ws i w within)) (All-push P (take i ws) (get_or ws i w) all (subst P is one))

-- for the get at this place there is an item
pub finds_get : (gets : List WaitingGet) (old now after : Stock) (at : ℕ) (w : WaitingGet) (value : ℤ)
    → kind_of_stock now ≡ kind_of_stock old → items_of_stock now ≡ items_of_stock old
    → at < length (looked_at (get_reach (store_kind (kind_of_stock old))) gets) → All (λ v. given_from old v ≡ None) (take at gets) → w ≡ get_or gets at w
    → kind_of_stock after ≡ kind_of_stock now → GivesItem (given_from now w) (items_of_stock now).items value (items_of_stock after).items
    → (items_of_stock now).spare ≤ (items_of_stock after).spare → FindsGet gets old at value after
finds_get gets old now after at w value kind same within passed is kept gives spare =
    let inside : at < length gets = omega (arith, within, looked_few (get_reach (store_kind (kind_of_stock old))) gets) in
    record {
      within = within;
      passed = passed;
      gives = λ d.
          let here : GivesItem (given_to (kind_of_stock now) (items_of_stock now).items (get_or gets at d)) (items_of_stock now).items value (items_of_stock after).items =
          subst (λ v. GivesItem (given_from now v) (items_of_stock now).items value (items_of_stock after).items) (is ∙ get_or_default gets at w d inside) gives in
          let by_kind : GivesItem (given_to (kind_of_stock old) (items_of_stock now).items (get_or gets at d)) (items_of_stock now).items value (items_of_stock after).items =
          subst (λ k. GivesItem (given_to k (items_of_stock now).items (get_or gets at d)) (items_of_stock now).items value (items_of_stock after).items) kind here in
          subst (λ (xs : ItemsOf). GivesItem (given_to (kind_of_stock old) xs.items (get_or gets at d)) xs.items value (items_of_stock after).items) same by_kind;
      kind = kept ∙ kind;
      room = subst (λ (xs : ItemsOf). xs.spare ≤ (items_of_stock after).spare) same spare;
    }

-- a get for which there is none now finds none in what was there before
pub passed_by : (old now : Stock) (w : WaitingGet) → kind_of_stock now ≡ kind_of_stock old → items_of_stock now ≡ items_of_stock old
    → given_from now w ≡ None → given_from old w ≡ None
passed_by old now w kind same none =
    subst (λ k. given_to k (items_of_stock old).items w ≡ None) kind (subst (λ (xs : ItemsOf). given_to (kind_of_stock now) xs.items w ≡ None) same none)
