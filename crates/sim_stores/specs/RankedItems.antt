-- How a priority store keeps its items: each with a number, in the order put. Only the code of this crate knows it.
use Rattle.std.specs.Prelude.{◌≡◌, ◌≢◌, ℕ, zero, suc, ◌<◌, ◌==◌, List, [], ◌++◌, length, Option, option_map, All, AllPairs, find}
use Rattle.std.specs.Option.{option_to_list}
use Rattle.std.specs.Ordering.{nat_cmp, int_cmp, then_cmp, on, flip_args}
use Rattle.std.specs.Cmp.{IsTotalOrder, then_total, back_total, on_total, nat_cmp_total, int_cmp_total}
use Rattle.std.specs.BinaryHeap.{IsHeap}
use Rattle.std.specs.declared.cmp.Ordering.{Ordering}
use Rattle.sim_machine.specs.State.{Item}
use Rattle.sim_stores.specs.declared.heap.Ranked.{Ranked}

-- of two items the one is greater that is given first: by the lesser priority, and then by the lesser number
abbrev pub rank_cmp : Ranked → Ranked → Ordering
rank_cmp = then_cmp (flip_args (on (λ x. x.item.priority) int_cmp)) (flip_args (on (λ x. x.number) nat_cmp))

-- this is an order
pub rank_total : IsTotalOrder rank_cmp
rank_total = then_total (back_total (on_total (λ x. x.item.priority) int_cmp_total)) (back_total (on_total (λ x. x.number) nat_cmp_total))

-- the item of this number, if there is one
abbrev pub item_of_number : ℕ → List Ranked → Option Item
item_of_number n xs = option_map (λ x. x.item) (find (λ x. x.number == n) xs)

-- the items whose numbers are less, in the order of their numbers
abbrev pub items_below : ℕ → List Ranked → List Item
items_below zero xs = []
items_below (suc n) xs = items_below n xs ++ option_to_list (item_of_number n xs)

-- a heap in which no two items have one number, and all numbers are below the next one
pub record IsSoundHeap (xs : List Ranked) (next : ℕ) : Type 0 where
  pub heap : IsHeap rank_cmp xs
  pub differ : AllPairs (λ x y. x.number ≢ y.number) xs
  pub below : All (λ x. x.number < next) xs
  pub counted : length (items_below next xs) ≡ length xs
