-- The rule of the table: that of each lane, and what each seat knows.
use Rattle.std.specs.Prelude.{◌≡◌, ℕ, suc, ◌<◌, ◌≤◌, Bool, true, false, List, length, slice_index, Some}
use mathlib.Core.Option.{some}
use lib.ListN.{get_elem?}
use Rattle.atomic_table.specs.Table.{State}
use Rattle.sim_types.specs.declared.setup.Post.{Post}
use Rattle.sim_lanes.specs.Places.{lane_at, end_of}
use Rattle.sim_lanes.specs.Views.{new_poster, lane}
use Rattle.sim_lanes.specs.LaneRule.{OneLane}
use Rattle.sim_lanes.specs.declared.view.PosterView.{PosterView}
use Rattle.sim_lanes.specs.declared.view.LaneView.{LaneView}
use Rattle.sim_lanes.specs.declared.view.View.{View}
use Rattle.sim_lanes.specs.declared.view.View.TheVariants.{Poster, Taker, Spent}

-- what all seats together know: how many posters' seats were split off, of each lane what its poster and what the taker
-- knows, and whether the poster has joined. Of a poster that has joined, what it knew then stays
pub record Knowledge : Type 0 where
  pub made : ℕ
  pub posters : ℕ → PosterView
  pub lanes : ℕ → LaneView
  pub joined : ℕ → Bool

-- the taker knows this of lane p: where it lies, and the whole list of a poster that has joined
pub record FitsLane (capacities : List ℕ) (all : Knowledge) (p : ℕ) (g : LaneView) : Type 0 where
  pub is : all.lanes p ≡ g
  pub place : g.place ≡ lane_at 1 capacities p
  pub capacity : g.capacity ≡ slice_index capacities p
  pub whole : (l : List Post) → g.whole ≡ Some l → ((all.posters p).posted ≡ l) × (all.joined p ≡ true)

-- the seat `id` knows this. The taker has the first seat, and posters have the next ones, in order of their numbers
abbrev pub Fits : List ℕ → Knowledge → ℕ → View → Type 0
Fits capacities all id (Poster v) = (id ≡ suc v.number) × (v.number < all.made) × (all.joined v.number ≡ false) × (all.posters v.number ≡ v)
Fits capacities all id (Taker n lanes) =
    (id ≡ 0) × (n ≡ all.made) × (length lanes ≡ length capacities) × ((p : ℕ) → p < length capacities → FitsLane capacities all p (lane lanes p))
Fits capacities all id Spent = Unit {0}

-- the rule of lanes with these capacities
pub record Lanes {S : Type 0} (capacities : List ℕ) (s : State S View) : Type 0 where
  pub all : Knowledge
  -- word 0 is 0, and the lanes follow it
  pub words : length s.words ≡ end_of 1 capacities
  pub zero : slice_index s.words 0 ≡ 0
  pub each : (p : ℕ) → p < length capacities
      → OneLane (slice_index s.words) (lane_at 1 capacities p) (slice_index capacities p) (all.posters p) (all.lanes p)
  -- a poster whose seat is not yet made has posted nothing
  pub seats : length s.views ≡ suc all.made
  pub few : all.made ≤ length capacities
  pub unmade : (p : ℕ) → all.made ≤ p → (all.posters p ≡ new_poster p (slice_index capacities p)) × (all.joined p ≡ false)
  pub fits : (id : ℕ) (v : View) → get_elem? s.views id ≡ some v → Fits capacities all id v
