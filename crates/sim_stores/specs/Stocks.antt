-- The items of a store of any kind. Only the code of this crate knows it.
use Rattle.std.specs.Prelude.{Bool, true, false}
use Rattle.sim_stores.specs.Items.{ItemsOf}
use Rattle.sim_stores.specs.declared.stock.Stock.{Stock}
use Rattle.sim_stores.specs.declared.stock.Stock.TheVariants as stock
use Rattle.sim_shared_model.specs.declared.stock.ShelfKind.{ShelfKind}
use Rattle.sim_shared_model.specs.declared.stock.ShelfKind.TheVariants as kind

-- the kind of store that this is
abbrev pub kind_of_stock : Stock → ShelfKind
kind_of_stock (stock.Fifo xs) = kind.Fifo
kind_of_stock (stock.Priority xs) = kind.Priority
kind_of_stock (stock.Filter xs) = kind.Filter

-- its items
abbrev pub items_of_stock : Stock → ItemsOf
items_of_stock (stock.Fifo xs) = xs
items_of_stock (stock.Priority xs) = xs
items_of_stock (stock.Filter xs) = xs

-- whether gets that find no item are passed over
abbrev pub is_filter : ShelfKind → Bool
is_filter kind.Filter = true
is_filter _ = false
