-- The ends that an opening makes.
use Rattle.std.specs.Prelude.{◌≡◌, ℕ, zero, suc, List, [], ◌∷◌, ◌++◌, ◌<◌, length, slice_index, slice_index_or}
use Rattle.atomic_table.specs.Table.{Me}
use Rattle.atomic_table.specs.Seated.{TableId}
use Rattle.sim_lanes.specs.Views.{new_poster, lane, lanes_from}
use Rattle.sim_lanes.specs.Ends.{PosterOf, IsSeated, KnowsLane, no_end, inbox_of}
use Rattle.sim_lanes.specs.declared.lane_end.LaneEnd.{LaneEnd}
use Rattle.sim_lanes.specs.declared.view.View.{View}
use Rattle.sim_lanes.specs.declared.view.View.TheVariants.{Taker}

-- the taker's ends of all lanes, through which nothing went
abbrev pub AreEnds : List ℕ → List LaneEnd → Type 0
AreEnds capacities ends = (p : ℕ) → p < length capacities → KnowsLane capacities p (lane (lanes_from 1 capacities) p) (slice_index_or ends p no_end)

-- poster p, which has posted nothing
abbrev pub fresh_poster : TableId → List ℕ → ℕ → PosterOf
fresh_poster z capacities p = record { inbox = inbox_of z; knows = new_poster p (slice_index capacities p) }

-- the first n of these
abbrev pub fresh_posters : TableId → List ℕ → ℕ → List PosterOf
fresh_posters z capacities zero = []
fresh_posters z capacities (suc n) = fresh_posters z capacities n ++ fresh_poster z capacities n ∷ []

-- the first seat, off which n posters' seats were split
pub record HasSplit {S : Type 0} (capacities : List ℕ) (table seat : TableId) (me : Me S View) (n : ℕ) : Type 0 where
  pub seated : IsSeated capacities table seat
  pub knows : me ≡ (Taker n (lanes_from 1 capacities), [])
