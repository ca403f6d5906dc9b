-- What holds of every container and of every store. Only the code of this crate knows it.
use Rattle.std.specs.Prelude.{ℕ, ◌≤◌, ℤ, pos, ◌≤ℤ◌, ◌<ℤ◌, List, ◌++◌, map, length, All}
use Rattle.sim_types.specs.Limits.{most_level}
use Rattle.sim_machine.specs.State.{Item}
use Rattle.sim_shared_model.specs.declared.stock.WaitingAmount.{WaitingAmount}
use Rattle.sim_shared_model.specs.declared.stock.WaitingPut.{WaitingPut}
use Rattle.sim_shared_model.specs.declared.stock.WaitingGet.{WaitingGet}
use Rattle.sim_shared_model.specs.StoreQueues.{AllDiffer}

-- the level is from 0 to the capacity, amounts are above 0, and the events that wait differ
pub record IsSoundTank (capacity level : ℤ) (puts gets : List WaitingAmount) : Type 0 where
  pub low : pos 0 ≤ℤ level
  pub high : level ≤ℤ capacity
  pub most : capacity ≤ℤ most_level
  pub put : All (λ w. pos 0 <ℤ w.amount) puts
  pub got : All (λ w. pos 0 <ℤ w.amount) gets
  pub differ : AllDiffer (map (λ w. w.event) puts ++ map (λ w. w.event) gets)

-- a store has no more items than it can hold, and the events that wait differ
pub record IsSoundShelf (capacity : ℕ) (items : List Item) (puts : List WaitingPut) (gets : List WaitingGet) : Type 0 where
  pub few : length items ≤ capacity
  pub differ : AllDiffer (map (λ w. w.event) puts ++ map (λ w. w.event) gets)
