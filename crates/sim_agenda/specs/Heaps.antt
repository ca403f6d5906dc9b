-- How the entries stand: none comes before the one above it. Only the code of this crate knows it.
use Rattle.std.specs.Prelude.{◌≡◌, ◌≢◌, ℕ, ◌-◌, ◌/◌, ◌<◌, List, ◌∷◌, length, set, slice_index_or}
use Rattle.std.specs.List.Sorted.{IsPermutation}
use Rattle.sim_types.specs.Keys.{IsLess}
use Rattle.sim_types.specs.declared.event.Entry.{Entry}

-- the place above a place
abbrev pub parent : ℕ → ℕ
parent place = (place - 1) / 2

-- no entry comes before the one above it
abbrev pub IsHeap : List Entry → Type 0
IsHeap xs = (i : ℕ) (d : Entry) → 0 < i → i < length xs
    → ¬ IsLess (slice_index_or xs i d).key (slice_index_or xs (parent i) d).key

-- so it is with all entries but the one at a place
abbrev pub IsHeapBut : List Entry → ℕ → Type 0
IsHeapBut xs place = (i : ℕ) (d : Entry) → 0 < i → i < length xs → i ≢ place
    → ¬ IsLess (slice_index_or xs i d).key (slice_index_or xs (parent i) d).key

-- none below the same place comes before the entry at this one
abbrev pub IsFirstBelow : List Entry → ℕ → Type 0
IsFirstBelow xs i = (k : ℕ) (d : Entry) → 0 < k → k < length xs → parent k ≡ parent i
    → ¬ IsLess (slice_index_or xs k d).key (slice_index_or xs i d).key

-- no entry right below this place comes before this one
abbrev pub StandsAbove : Entry → List Entry → ℕ → Type 0
StandsAbove x xs i = (k : ℕ) (d : Entry) → 0 < k → k < length xs → parent k ≡ i
    → ¬ IsLess (slice_index_or xs k d).key x.key

-- the first is gone, and with any other written at the place all are there
pub record IsMovedUp (old new : List Entry) (place : ℕ) : Type 0 where
  pub within : place < length new
  pub len : length new ≡ length old
  pub heap : IsHeap new
  pub moved : (x : Entry) → IsPermutation (x ∷ old) (slice_index_or old 0 x ∷ set new place x)
