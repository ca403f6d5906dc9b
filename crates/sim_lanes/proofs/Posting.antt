-- The steps of a poster are allowed.
use Rattle.std.proofs.Common.{◌≡◌, ℕ, ◌+◌, ◌<◌, ◌≤◌, ◌^◌, ◌-◌, List, length, get_or, subst, sym, ap, ◌∙◌, arith}
use Rattle.atomic_table.specs.Table.{Me}
use Rattle.atomic_table.specs.Seated.{TableId}
use Rattle.sim_lanes.specs.Places.{cell, width, lane_at}
use Rattle.sim_lanes.specs.Views.{of_poster}
use Rattle.sim_lanes.specs.Steps.{AreKnown, HasRoom}
use Rattle.sim_lanes.specs.Plays.{SeesHead, WritesPort, WritesValue, Posts}
use Rattle.sim_lanes.specs.Ends.{PosterOf, poster_of, IsPosting}
use Rattle.sim_lanes.specs.declared.lane_end.LaneEnd.{LaneEnd}
use Rattle.sim_lanes.specs.declared.view.View.{View}
use Rattle.sim_lanes.proofs.OneLanes.{cell_within}
use Rattle.sim_lanes.proofs.AllLanes.{lane_end}
use Rattle.sim_lanes.proofs.Allowed.{MayLoad, MayStore, loads_head, stores_port, stores_value, stores_tail}

module _ {S : Type 0} {cs : List ℕ} {table seat : TableId} {me : Me S View} {end : LaneEnd} where
  -- the words of the lane are words of the table
  within : IsPosting cs table seat me end → end.place + width end.capacity ≤ table.words
  within h =
      let w = h.seated.words in let at = h.own.place in let room = h.own.capacity in
      let e = lane_end 1 cs (of_poster me.0).number h.own.there in omega (arith, w, at, room, e)

  pub may_load_head : IsPosting cs table seat me end → (id : ℕ) → MayLoad cs table seat id me end.place SeesHead
  may_load_head h id = let i = within h in (h.seated.same_table, omega (arith, i), loads_head cs table.slots id me end.place h.is_poster h.own.place)

  cell_is : (h : IsPosting cs table seat me end) → cell end.place end.capacity end.count ≡ cell (lane_at 1 cs (of_poster me.0).number) (get_or cs (of_poster me.0).number 0) (length (of_poster me.0).posted)
  cell_is h = λ k. cell (h.own.place k) (h.own.capacity k) (h.own.count k)

  module _ (h : IsPosting cs table seat me end) {old : PosterOf} (is : poster_of seat me.0 ≡ old) (id i n : ℕ) where
    pub may_store_port : HasRoom old.knows → i ≡ cell end.place end.capacity end.count → n < 2 ^ 32 → MayStore cs table seat id me i n WritesPort
    may_store_port room at small =
        let l = within h in let c = cell_within end.place end.capacity end.count h.own.some_room in let c1 = c.1 in
        let room' = subst (λ (x : PosterOf). HasRoom x.knows) (sym is) room in
        (h.seated.same_table, omega (arith, l, c1, at), stores_port cs table.slots id me i n h.is_poster (at ∙ cell_is h) small room')

    pub may_store_value : HasRoom old.knows → i ≡ cell end.place end.capacity end.count + 1 → MayStore cs table seat id me i n WritesValue
    may_store_value room at =
        let l = within h in let c = cell_within end.place end.capacity end.count h.own.some_room in let c1 = c.1 in
        let room' = subst (λ (x : PosterOf). HasRoom x.knows) (sym is) room in
        (h.seated.same_table, omega (arith, l, c1, at), stores_value cs table.slots id me i n h.is_poster (at ∙ ap (λ (k : ℕ). k + 1) (cell_is h)) room')

    pub may_store_tail : AreKnown old.knows.port old.knows.value → length old.knows.posted < 2 ^ 32 - 1 → i ≡ end.place + 1 → n ≡ end.count + 1
        → MayStore cs table seat id me i n Posts
    may_store_tail written few at next =
        let l = within h in
        let count : end.count ≡ length old.knows.posted = h.own.count ∙ ap (λ (x : PosterOf). length x.knows.posted) is in
        let written' = subst (λ (x : PosterOf). AreKnown x.knows.port x.knows.value) (sym is) written in (
          h.seated.same_table,
          omega (arith, l, at),
          stores_tail cs table.slots id me i n h.is_poster (at ∙ ap (λ (k : ℕ). k + 1) h.own.place)
              (next ∙ ap (λ (k : ℕ). k + 1) h.own.count) written' (omega (arith, next, count, few)),
        )
