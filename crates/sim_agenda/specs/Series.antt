-- How the entries stand that came in rising order. Only the code of this crate knows it.
use Rattle.std.specs.Prelude.{◌≡◌, ◌<◌, ◌≤◌, ◌+◌, ℕ, List, [], ◌∷◌, All, AllPairs, length}
use Rattle.sim_types.specs.Keys.{IsLess}
use Rattle.sim_types.specs.declared.event.Entry.{Entry}
use Rattle.sim_agenda.specs.Heaps.{IsHeap}

-- each entry comes before all that stand behind it
abbrev pub Rises : List Entry → Type 0
Rises = AllPairs (λ x y. IsLess x.key y.key)

-- no entry comes before this one
abbrev pub IsDue : Entry → List Entry → Type 0
IsDue x = All (λ y. ¬ IsLess y.key x.key)

-- no entry comes before this one, and it does not come before another of which this is so
pub record IsFirst (x : Entry) (xs : List Entry) : Type 0 where
  pub some : 0 < length xs
  pub due : IsDue x xs
  pub among : (y : Entry) → IsDue y xs → ¬ IsLess x.key y.key

-- the series has a front, and none of the others comes before it
pub record FrontIsDue (series others : List Entry) : Type 0 where
  pub some : 0 < length series
  pub due : (x : Entry) (rest : List Entry) → series ≡ x ∷ rest → IsDue x others

-- none of the series comes before an entry that none of the others comes before, and there are others if there is any
pub record FirstIsDue (series others : List Entry) : Type 0 where
  pub none : others ≡ [] → series ≡ []
  pub due : (x : Entry) → 0 < length others → IsDue x others → IsDue x series

-- a heap and a series, of which each has room for all
pub record IsArranged (xs ys : List Entry) (heap_capacity series_capacity : ℕ) : Type 0 where
  pub heap : IsHeap xs
  pub series : Rises ys
  pub heap_room : length xs + length ys ≤ heap_capacity
  pub series_room : length xs + length ys ≤ series_capacity
