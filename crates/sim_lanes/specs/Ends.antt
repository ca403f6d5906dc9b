-- The two kinds of end of the lanes, as contracts see them, and what holds of each between two calls.
use Rattle.std.specs.Prelude.{◌≡◌, ℕ, ◌+◌, ◌<◌, ◌≤◌, ◌^◌, List, [], ◌∷◌, length, slice_get, slice_index, slice_index_or, slice_set, Some}
use Rattle.atomic_table.specs.Table.{Me}
use Rattle.atomic_table.specs.Seated.{TableId}
use Rattle.sim_types.specs.declared.setup.Post.{Post}
use Rattle.sim_lanes.specs.Places.{width, lane_at, end_of}
use Rattle.sim_lanes.specs.Views.{lane, of_poster, lanes_of, IsPoster, IsTaker}
use Rattle.sim_lanes.specs.declared.lane_end.LaneEnd.{LaneEnd}
use Rattle.sim_lanes.specs.declared.view.PosterView.{PosterView}
use Rattle.sim_lanes.specs.declared.view.LaneView.{LaneView}
use Rattle.sim_lanes.specs.declared.view.View.{View}

-- the numbers that tell a table from every other one
abbrev pub inbox_of : TableId → List ℕ
inbox_of z = z.words ∷ z.slots ∷ z.views_name ∷ z.atom ∷ z.block ∷ z.offset ∷ z.slot_names

-- a poster: its inbox, and what its seat knows
pub record PosterOf : Type 0 where
  pub inbox : List ℕ
  pub knows : PosterView

abbrev pub poster_of : TableId → View → PosterOf
poster_of z v = record { inbox = inbox_of z; knows = of_poster v }

-- what it posted
abbrev pub posted_of : PosterOf → List Post
posted_of x = x.knows.posted

-- the posters of an inbox, in order of their numbers
abbrev pub AreInOrder : List ℕ → List PosterOf → Type 0
AreInOrder inbox posters = (p : ℕ) (x : PosterOf) → slice_get posters p ≡ Some x → (x.knows.number ≡ p) × (x.inbox ≡ inbox)

-- the taker: its inbox, and what its seat knows of each lane
pub record TakerOf : Type 0 where
  pub inbox : List ℕ
  pub lanes : List LaneView

abbrev pub taker_of : TableId → View → TakerOf
taker_of z v = record { inbox = inbox_of z; lanes = lanes_of v }

-- what it took of poster p
abbrev pub taken_of : TakerOf → ℕ → List Post
taken_of t p = (lane t.lanes p).taken

-- the taker, where it knows this of lane p
abbrev pub with_lane : TakerOf → ℕ → LaneView → TakerOf
with_lane t p g = record t { lanes = slice_set t.lanes p g }

-- the end is of lane p, and n posts went through it
pub record IsEndOf (capacities : List ℕ) (p n : ℕ) (end : LaneEnd) : Type 0 where
  pub there : p < length capacities
  pub place : end.place ≡ lane_at 1 capacities p
  pub capacity : end.capacity ≡ slice_index capacities p
  pub some_room : 0 < end.capacity
  pub small : end.place + width end.capacity < 2 ^ 63
  pub count : end.count ≡ n

-- the taker knows where lane p lies
pub record KnowsLane (capacities : List ℕ) (p : ℕ) (g : LaneView) (end : LaneEnd) : Type 0 where
  pub own : IsEndOf capacities p (length g.taken) end
  pub place_known : end.place ≡ g.place
  pub capacity_known : end.capacity ≡ g.capacity

abbrev pub no_end : LaneEnd
no_end = record { place = 0; capacity = 0; count = 0 }

-- a seat of the table of lanes with these capacities
pub record IsSeated (capacities : List ℕ) (table seat : TableId) : Type 0 where
  pub same_table : seat ≡ table
  pub words : table.words ≡ end_of 1 capacities

module _ {S : Type 0} (capacities : List ℕ) (table seat : TableId) (me : Me S View) where
  -- what holds of a poster
  pub record IsPosting (end : LaneEnd) : Type 0 where
    pub seated : IsSeated capacities table seat
    pub no_slots : me.1 ≡ []
    pub is_poster : IsPoster me.0
    pub own : IsEndOf capacities (of_poster me.0).number (length (of_poster me.0).posted) end
    pub capacity_known : end.capacity ≡ (of_poster me.0).capacity
    pub few : end.count < 2 ^ 32

  -- what holds of the taker
  pub record IsTaking (ends : List LaneEnd) : Type 0 where
    pub seated : IsSeated capacities table seat
    pub no_slots : me.1 ≡ []
    pub is_taker : IsTaker me.0
    pub few : length capacities ≤ 16
    pub ends_many : length ends ≡ length capacities
    pub lanes_many : length (lanes_of me.0) ≡ length capacities
    pub each : (p : ℕ) → p < length capacities → KnowsLane capacities p (lane (lanes_of me.0) p) (slice_index_or ends p no_end)
