-- Which gets a store has tried with which items. Only the code of this crate knows it.
use Rattle.std.specs.Prelude.{◌≡◌, ◌≤◌, List, length, take, None, All}
use Rattle.sim_machine.specs.State.{Item}
use Rattle.sim_shared_model.specs.declared.stock.WaitingGet.{WaitingGet}
use Rattle.sim_shared_model.specs.declared.stock.ShelfKind.{ShelfKind}
use Rattle.sim_shared_model.specs.Shelves.{given_to}
use Rattle.sim_stores.specs.declared.tried.Tried.{Tried}

-- the counts are right: if the counted items were the only ones, none of the counted gets would be given one
pub record IsTried (k : ShelfKind) (xs : List Item) (ws : List WaitingGet) (tried : Tried) : Type 0 where
  pub gets : tried.gets ≤ length ws
  pub items : tried.items ≤ length xs
  pub none : All (λ w. given_to k (take tried.items xs) w ≡ None) (take tried.gets ws)
