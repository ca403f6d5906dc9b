-- What a try to take of one lane, or of all, makes of the taker.
use Rattle.std.specs.Prelude.{◌≡◌, ◌≢◌, ℕ, ◌<◌, List, [], ◌∷◌, ◌++◌, length, Some}
use Rattle.sim_types.specs.declared.setup.Post.{Post}
use Rattle.sim_inbox.specs.declared.taken.Taken.{Taken}
use Rattle.sim_lanes.specs.Views.{lane}
use Rattle.sim_lanes.specs.Ends.{TakerOf, taken_of}

-- nothing but lane p changed, and of it not the whole list of a poster that has joined
pub record SameElsewhere (before after : TakerOf) (p : ℕ) : Type 0 where
  pub inbox : after.inbox ≡ before.inbox
  pub many : length after.lanes ≡ length before.lanes
  pub whole : (lane after.lanes p).whole ≡ (lane before.lanes p).whole
  pub others : (q : ℕ) → q ≢ p → lane after.lanes q ≡ lane before.lanes q

-- one post more was taken, of lane p. Where its poster has joined, it is one of those that were left
pub record TookFrom (before after : TakerOf) (p : ℕ) (t : Taken) : Type 0 where
  pub elsewhere : SameElsewhere before after p
  pub poster : t.poster ≡ p
  pub serial : t.serial ≡ length (taken_of before p)
  pub taken : taken_of after p ≡ taken_of before p ++ t.item ∷ []
  pub left : (l : List Post) → (lane before.lanes p).whole ≡ Some l → length (taken_of before p) < length l

-- the tail of lane p was loaded in this call, and was the number taken of it. Where its poster has joined, all is taken
pub record FoundNone (before after : TakerOf) (p : ℕ) : Type 0 where
  pub elsewhere : SameElsewhere before after p
  pub loaded : (lane before.lanes p).loads < (lane after.lanes p).loads
  pub found : (lane after.lanes p).posted_seen ≡ length (taken_of after p)
  pub taken : taken_of after p ≡ taken_of before p
  pub all : (l : List Post) → (lane before.lanes p).whole ≡ Some l → l ≡ taken_of before p

-- the tail of each lane was loaded in this call, and was the number taken of it
abbrev pub FoundNoneAnywhere : TakerOf → TakerOf → Type 0
FoundNoneAnywhere before after = (p : ℕ) → p < length before.lanes
    → ((lane before.lanes p).loads < (lane after.lanes p).loads) × ((lane after.lanes p).posted_seen ≡ length (taken_of after p))
