-- How the get is found that is served. Only the code of this crate knows it.
use Rattle.std.specs.Prelude.{◌≡◌, ℕ, ◌<◌, ◌≤◌, ℤ, List, length, take, slice_index_or, Option, None, All, MatchOption}
use Rattle.sim_machine.specs.State.{Item}
use Rattle.sim_machine.specs.Trying.{get_reach}
use Rattle.sim_shared_model.specs.declared.stock.WaitingGet.{WaitingGet}
use Rattle.sim_stores.specs.declared.stock.Stock.{Stock}
use Rattle.sim_shared_model.specs.StoreQueues.{looked_at}
use Rattle.sim_stores.specs.Items.{GivesItem}
use Rattle.sim_stores.specs.Stocks.{kind_of_stock, items_of_stock}
use Rattle.sim_shared_model.specs.Shelves.{store_kind, given_to}

-- the item that a get is given from the stock, if there is one
abbrev pub given_from : Stock → WaitingGet → Option Item
given_from s w = given_to (kind_of_stock s) (items_of_stock s).items w

-- the get at this place is the first for which there is an item, and that item leaves
pub record FindsGet (gets : List WaitingGet) (old : Stock) (at : ℕ) (value : ℤ) (after : Stock) : Type 0 where
  pub within : at < length (looked_at (get_reach (store_kind (kind_of_stock old))) gets)
  pub passed : All (λ w. given_from old w ≡ None) (take at gets)
  pub gives : (d : WaitingGet) → GivesItem (given_from old (slice_index_or gets at d)) (items_of_stock old).items value (items_of_stock after).items
  pub kind : kind_of_stock after ≡ kind_of_stock old
  pub room : (items_of_stock old).spare ≤ (items_of_stock after).spare

-- for none of the gets that a try looks at there is an item, and all stays
pub record FindsNoGet (gets : List WaitingGet) (old after : Stock) : Type 0 where
  pub none : All (λ w. given_from old w ≡ None) (looked_at (get_reach (store_kind (kind_of_stock old))) gets)
  pub kind : kind_of_stock after ≡ kind_of_stock old
  pub same : items_of_stock after ≡ items_of_stock old

-- one or none is found
abbrev pub FindsGetIfAny : List WaitingGet → Stock → Option (ℕ × ℤ) → Stock → Type 0
FindsGetIfAny gets old result after = MatchOption result (FindsNoGet gets old after) (λ found. FindsGet gets old found.0 found.1 after)
