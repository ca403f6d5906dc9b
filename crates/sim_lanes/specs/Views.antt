-- What a poster and the taker know at first, and what the view of a seat says.
use Rattle.std.specs.Prelude.{◌≡◌, ℕ, ◌+◌, List, [], ◌∷◌, slice_set, slice_index_or, None}
use Rattle.sim_lanes.specs.Places.{width}
use Rattle.sim_lanes.specs.declared.view.PosterView.{PosterView}
use Rattle.sim_lanes.specs.declared.view.LaneView.{LaneView}
use Rattle.sim_lanes.specs.declared.view.View.{View}
use Rattle.sim_lanes.specs.declared.view.View.TheVariants.{Poster, Taker, Spent}

-- a poster that has posted nothing
abbrev pub new_poster : ℕ → ℕ → PosterView
new_poster number capacity = record { number = number; capacity = capacity; posted = []; loads = 0; taken_seen = 0; port = None; value = None }

-- a lane of which nothing was taken
abbrev pub new_lane : ℕ → ℕ → LaneView
new_lane place capacity = record { place = place; capacity = capacity; taken = []; loads = 0; posted_seen = 0; port = None; value = None; whole = None }

-- lanes with these capacities, the first of which lies at `place`
abbrev pub lanes_from : ℕ → List ℕ → List LaneView
lanes_from place [] = []
lanes_from place (c ∷ cs) = new_lane place c ∷ lanes_from (place + width c) cs

-- lane p of these; where there is none, a lane of which nothing was taken
abbrev pub lane : List LaneView → ℕ → LaneView
lane lanes p = slice_index_or lanes p (new_lane 0 0)

-- what a poster's view says of its lane
abbrev pub of_poster : View → PosterView
of_poster (Poster v) = v
of_poster (Taker n lanes) = new_poster 0 0
of_poster Spent = new_poster 0 0

-- what the taker's view says of each lane
abbrev pub lanes_of : View → List LaneView
lanes_of (Poster v) = []
lanes_of (Taker n lanes) = lanes
lanes_of Spent = []

-- how many posters' seats the taker's seat has split off
abbrev pub posters_of : View → ℕ
posters_of (Poster v) = 0
posters_of (Taker n lanes) = n
posters_of Spent = 0

-- the taker's view, where it knows this of lane p
abbrev pub knowing : View → ℕ → LaneView → View
knowing v p g = Taker (posters_of v) (slice_set (lanes_of v) p g)

abbrev pub IsPoster : View → Type 0
IsPoster v = v ≡ Poster (of_poster v)

abbrev pub IsTaker : View → Type 0
IsTaker v = v ≡ Taker (posters_of v) (lanes_of v)
