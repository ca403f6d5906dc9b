-- Items as they are kept, and one that is given. Only the code of this crate knows it.
use Rattle.std.specs.Prelude.{◌≡◌, ◌<◌, Bool, ◌&&◌, IsTrue, IsFalse, int_le, ℕ, length, ℤ, List, Option, Some, None, MatchOption}
use Rattle.std.specs.List.{AllWithin, HoldsAt}
use Rattle.sim_machine.specs.State.{Item}
use Rattle.sim_shared_model.specs.Shelves.{Leaves}

-- the items in the order put, and for how many more there is room
pub record ItemsOf : Type 0 where
  pub items : List Item
  pub spare : ℕ

-- whether the value of the item is in this range
abbrev pub is_in_range : ℤ → ℤ → Item → Bool
is_in_range least greatest x = int_le least x.value && int_le x.value greatest

-- the first item in this range stands at this place; none means that there is no such item
abbrev pub FindsWithin : ℤ → ℤ → List Item → Option ℕ → Type 0
FindsWithin least greatest xs result =
    let Yes : Item → Type 0 = λ x. IsTrue (is_in_range least greatest x) in
    let No : Item → Type 0 = λ x. IsFalse (is_in_range least greatest x) in
    MatchOption result (AllWithin No xs 0 (length xs)) (λ at. (at < length xs) × HoldsAt Yes xs at × AllWithin No xs 0 at)

-- an item is given, and its value is told
pub record GivesItem (given : Option Item) (old : List Item) (value : ℤ) (after : List Item) : Type 0 where
  pub item : Item
  pub is : given ≡ Some item
  pub told : value ≡ item.value
  pub leaves : Leaves item old after

-- the item that is to be given is given; where there is none, all stays
abbrev pub GivesItemIfAny : Option Item → ItemsOf → Option ℤ → ItemsOf → Type 0
GivesItemIfAny given old result after =
    MatchOption result ((given ≡ None) × (after ≡ old)) (λ value. GivesItem given old.items value after.items)
