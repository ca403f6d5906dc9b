-- The joins of a close.
use Rattle.std.specs.Prelude.{◌≡◌, ℕ, ◌<◌, List, [], map, length, slice_index_or, Option, Some, None}
use Rattle.sim_types.specs.declared.setup.Post.{Post}
use Rattle.sim_lanes.specs.Views.{lane}
use Rattle.sim_lanes.specs.Ends.{TakerOf, taken_of}
use Rattle.sim_lanes.specs.declared.view.LaneView.{LaneView}

abbrev pub posts_in : Option (List Post) → List Post
posts_in None = []
posts_in (Some posts) = posts

-- the list of the lane's poster, once it has joined
abbrev pub whole_of : LaneView → List Post
whole_of g = posts_in g.whole

-- those of all lanes
abbrev pub wholes_of : TakerOf → List (List Post)
wholes_of t = map whole_of t.lanes

-- each poster has joined
abbrev pub EachJoined : TakerOf → Type 0
EachJoined t = (p : ℕ) → p < length t.lanes → (lane t.lanes p).whole ≡ Some (whole_of (lane t.lanes p))

-- the posters have joined, with these lists, and nothing was taken
pub record AllJoined (before after : TakerOf) (lists : List (List Post)) : Type 0 where
  pub inbox : after.inbox ≡ before.inbox
  pub many : length after.lanes ≡ length before.lanes
  pub taken : (p : ℕ) → taken_of after p ≡ taken_of before p
  pub whole : (p : ℕ) → p < length lists → (lane after.lanes p).whole ≡ Some (slice_index_or lists p [])
