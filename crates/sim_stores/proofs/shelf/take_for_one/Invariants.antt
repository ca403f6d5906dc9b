use Rattle.std.proofs.Common.{◌≡◌, take, None, All}
use Rattle.sim_stores.specs.Stocks.{kind_of_stock, items_of_stock}
use Rattle.sim_stores.specs.Finding.{given_from}
use Rattle.sim_stores.proofs.shelf.take_for_one.Given as goal

-- for the gets so far there is no item
abbrev pub invariant-loop-at : goal.invariant-loop-at
invariant-loop-at l =
    record {
      kind : kind_of_stock l.stock ≡ kind_of_stock l.fn.stock;
      same : items_of_stock l.stock ≡ items_of_stock l.fn.stock;
      passed : All (λ w. given_from l.fn.stock w ≡ None) (take l.at l.gets.items);
    }
