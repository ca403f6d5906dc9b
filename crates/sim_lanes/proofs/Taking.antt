-- The steps of the taker are allowed, and what a take of one lane makes of them.
use Rattle.std.proofs.Common.{◌≡◌, ◌≢◌, ℕ, ℤ, ◌+◌, ◌<◌, ◌≤◌, List, [], ◌∷◌, ◌++◌, length, get_or, set, Option, Some, None, subst, sym, refl, ap, ◌∙◌, arith}
use Rattle.std.proofs.lemmas.List.{append-nil, length-set, get_or-set_same, get_or-set_other, length-append, get_or_read_under}
use mathlib.Core.Option.{none}
use mathlib.Core.Logic.{dite}
use native.Mathlib.Decide.{ℕ_discrete}
use Rattle.atomic_table.specs.Table.{Me, step}
use Rattle.atomic_table.specs.Seated.{TableId}
use Rattle.sim_types.specs.declared.setup.Post.{Post}
use Rattle.sim_inbox.specs.declared.taken.Taken.{Taken}
use Rattle.sim_lanes.specs.Places.{width}
use Rattle.sim_lanes.specs.Views.{new_lane, lane, lanes_of, knowing}
use Rattle.sim_lanes.specs.Steps.{AreKnown, HasWaiting, TailFound, post_of, saw_tail, read_port, read_value, took_next}
use Rattle.sim_lanes.specs.Plays.{next_cell, SeesTail, ReadsPort, ReadsValue, Takes}
use Rattle.sim_lanes.specs.Ends.{TakerOf, taker_of, taken_of, with_lane, IsTaking, KnowsLane, no_end}
use Rattle.sim_lanes.specs.Takes.{SameElsewhere, TookFrom, FoundNone}
use Rattle.sim_lanes.specs.declared.lane_end.LaneEnd.{LaneEnd}
use Rattle.sim_lanes.specs.declared.view.LaneView.{LaneView}
use Rattle.sim_lanes.specs.declared.view.View.{View}
use Rattle.sim_lanes.proofs.OneLanes.{cell_within}
use Rattle.sim_lanes.proofs.AllLanes.{lane_end}
use Rattle.sim_lanes.proofs.Allowed.{MayLoad, MayStore, loads_tail, loads_port, loads_value, stores_head}

module _ {S : Type 0} {cs : List ℕ} {table seat : TableId} {me : Me S View} {ends : List LaneEnd} (h : IsTaking cs table seat me ends) where
  -- what holds of lane p
  pub known_lane : {old : TakerOf} → taker_of seat me.0 ≡ old → (p : ℕ) → p < length old.lanes
      → (p < length (lanes_of me.0)) × (p < length cs) × KnowsLane cs p (lane (lanes_of me.0) p) (get_or ends p no_end)
  known_lane is p less =
      let own : p < length (lanes_of me.0) = subst (λ (t : TakerOf). p < length t.lanes) (sym is) less in
      let many : p < length cs = (let k = h.lanes_many in omega (arith, own, k)) in
      (own, many, h.each p many)

  module _ {old : TakerOf} (is : taker_of seat me.0 ≡ old) (id p i : ℕ) (less : p < length old.lanes) where
    abbrev mine : LaneView
    mine = lane (lanes_of me.0) p

    -- what contracts see of the lane is what the seat knows
    seen_is : lane old.lanes p ≡ mine
    seen_is = ap (λ (t : TakerOf). lane t.lanes p) (sym is)

    -- the words of the lane are words of the table
    within : mine.place + width mine.capacity ≤ table.words
    within =
        let k = known_lane is p less in let e = k.2 in
        let w = h.seated.words in let at = e.own.place in let room = e.own.capacity in let place = e.place_known in let capacity = e.capacity_known in
        let l = lane_end 1 cs p k.1 in omega (arith, w, at, room, l, place, capacity)

    some_room : 0 < mine.capacity
    some_room = let k = known_lane is p less in let s = k.2.own.some_room in let c = k.2.capacity_known in omega (arith, s, c)

    pub may_load_tail : i ≡ (lane old.lanes p).place + 1 → MayLoad cs table seat id me i SeesTail
    may_load_tail at =
        let w = within in let at' : i ≡ mine.place + 1 = at ∙ ap (λ (g : LaneView). g.place + 1) seen_is in
        (h.seated.same_table, omega (arith, w, at'), loads_tail cs table.slots id me p i h.is_taker (known_lane is p less).0 at')

    pub may_load_port : HasWaiting (lane old.lanes p) → i ≡ next_cell (lane old.lanes p) → MayLoad cs table seat id me i ReadsPort
    may_load_port waiting at =
        let w = within in let at' : i ≡ next_cell mine = at ∙ ap next_cell seen_is in
        let c = cell_within mine.place mine.capacity (length mine.taken) some_room in let c1 = c.1 in
        (h.seated.same_table, omega (arith, w, c1, at'), loads_port cs table.slots id me p i h.is_taker (known_lane is p less).0 at' (subst HasWaiting seen_is waiting))

    pub may_load_value : HasWaiting (lane old.lanes p) → i ≡ next_cell (lane old.lanes p) + 1 → MayLoad cs table seat id me i ReadsValue
    may_load_value waiting at =
        let w = within in let at' : i ≡ next_cell mine + 1 = at ∙ ap (λ (g : LaneView). next_cell g + 1) seen_is in
        let c = cell_within mine.place mine.capacity (length mine.taken) some_room in let c1 = c.1 in
        (h.seated.same_table, omega (arith, w, c1, at'), loads_value cs table.slots id me p i h.is_taker (known_lane is p less).0 at' (subst HasWaiting seen_is waiting))

    pub may_store_head : (n : ℕ) → AreKnown (lane old.lanes p).port (lane old.lanes p).value → i ≡ (lane old.lanes p).place → n ≡ length (taken_of old p) + 1
        → MayStore cs table seat id me i n Takes
    may_store_head n read at next =
        let w = within in let at' : i ≡ mine.place = at ∙ ap (λ (g : LaneView). g.place) seen_is in (
          h.seated.same_table,
          omega (arith, w, at'),
          stores_head cs table.slots id me p i n h.is_taker (known_lane is p less).0 at'
              (next ∙ ap (λ (g : LaneView). length g.taken + 1) seen_is) (subst (λ (g : LaneView). AreKnown g.port g.value) seen_is read),
        )

-- ---- a lane of a list, where one was changed
pub lane_here : (lanes : List LaneView) (p : ℕ) (g : LaneView) → p < length lanes → lane (set lanes p g) p ≡ g
lane_here lanes p g many = get_or-set_same lanes p g (new_lane 0 0) many

pub lane_else : (lanes : List LaneView) (p q : ℕ) (g : LaneView) → q ≢ p → lane (set lanes p g) q ≡ lane lanes q
lane_else lanes p q g ne = get_or-set_other lanes p q g (new_lane 0 0) ne

one_post : (a : Option ℕ) (b : Option ℤ) → AreKnown a b → length (post_of a b) ≡ 1
one_post None b k = absurd k
one_post (Some a) None k = absurd k
one_post (Some a) (Some b) k = refl

-- the list of a lane has one post more, where both words of the cell were read
one_more : (g : LaneView) → AreKnown g.port g.value → length (took_next g).taken ≡ length g.taken + 1
one_more g known = length-append g.taken (post_of g.port g.value) ∙ ap (λ (n : ℕ). length g.taken + n) (one_post g.port g.value known)

-- ---- what holds of the taker, after it knows more of lane p
module _ {S : Type 0} {cs : List ℕ} {table seat : TableId} {me : Me S View} {ends : List LaneEnd} (h : IsTaking cs table seat me ends) where
  pub still_taking : (seat' : TableId) (me' : Me S View) (p : ℕ) (g : LaneView) (ends' : List LaneEnd) → p < length cs → seat' ≡ seat
      → me' ≡ (knowing me.0 p g, me.1)
      → length ends' ≡ length ends → KnowsLane cs p g (get_or ends' p no_end) → ((q : ℕ) → q ≢ p → get_or ends' q no_end ≡ get_or ends q no_end)
      → IsTaking cs table seat' me' ends'
  still_taking seat' me' p g ends' many same is long here else = subst (λ (w : Me S View). IsTaking cs table seat' w ends') (sym is) (record {
    seated = record { same_table = same ∙ h.seated.same_table; words = h.seated.words };
    no_slots = h.no_slots;
    is_taker = refl;
    few = h.few;
    ends_many = long ∙ h.ends_many;
    lanes_many = length-set (lanes_of me.0) p g ∙ h.lanes_many;
    each = λ q l. dite (ℕ_discrete q p)
        (λ e. subst (λ (k : ℕ). KnowsLane cs k (lane (set (lanes_of me.0) p g) k) (get_or ends' k no_end)) (sym e)
        (subst (λ (x : LaneView). KnowsLane cs p x (get_or ends' p no_end)) (sym (lane_here (lanes_of me.0) p g (let k = h.lanes_many in omega (arith, many, k)))) here))
        (λ ne. subst (λ (x : LaneView × LaneEnd). KnowsLane cs q x.0 x.1) (let a = lane_else (lanes_of me.0) p q g ne in let b = else q ne in (λ k. (sym a k, sym b k))) (h.each q l));
  })

  -- after one post more was taken
  pub taken_one : {old : TakerOf} → taker_of seat me.0 ≡ old → (seat' : TableId) (me' : Me S View) (p slots i n : ℕ) (end : LaneEnd)
      → p < length old.lanes → seat' ≡ seat
      → Takes (step slots i n 0 none) me n me' → i ≡ (lane old.lanes p).place → AreKnown (lane old.lanes p).port (lane old.lanes p).value
      → n ≡ length (taken_of old p) + 1 → end ≡ get_or ends p end → IsTaking cs table seat' me' (set ends p (record end { count = n }))
  taken_one {old = old} is seat' me' p slots i n end less same told at read next found =
      let k = known_lane h is p less in
      let old_end = k.2 in
      let long : p < length ends = (let m = h.ends_many in let l = k.1 in omega (arith, m, l)) in
      let g : LaneView = lane (lanes_of me.0) p in
      let seen : lane old.lanes p ≡ g = ap (λ (t : TakerOf). lane t.lanes p) (sym is) in
      let moved = told p k.0 (at ∙ ap (λ (x : LaneView). x.place) seen) in
      let one = one_more g (subst (λ (x : LaneView). AreKnown x.port x.value) seen read) in
      let count : n ≡ length (took_next g).taken = next ∙ ap (λ (x : LaneView). length x.taken + 1) seen ∙ sym one in
      let end' : LaneEnd = record end { count = n } in
      let here : end ≡ get_or ends p no_end = get_or_read_under ends p (length ends) end no_end found long refl in
      still_taking seat' me' p (took_next g) (set ends p end') k.1 same moved (length-set ends p end')
      (subst (λ (x : LaneEnd). KnowsLane cs p (took_next g) x) (sym (get_or-set_same ends p end' no_end long ∙ ap (λ (x : LaneEnd). record x { count = n }) here)) (record {
        own = record { there = k.1; place = old_end.own.place; capacity = old_end.own.capacity; some_room = old_end.own.some_room; small = old_end.own.small; count = count };
        place_known = old_end.place_known;
        capacity_known = old_end.capacity_known;
      }))
      (λ q ne. get_or-set_other ends p q end' no_end ne)

-- ---- a take of one lane
none_more : (taken rest l : List Post) → l ≡ taken ++ rest → length l ≡ length taken → l ≡ taken
none_more taken [] l e n = e ∙ append-nil taken
none_more taken (x ∷ xs) l e n =
    let k : length l ≡ length taken + length (x ∷ xs) = ap (λ (y : List Post). length y) e ∙ length-append taken (x ∷ xs) in absurd (omega (arith, k, n))

-- other lanes are as before, and of this one the whole list
pub elsewhere : (t : TakerOf) (p : ℕ) (g : LaneView) → p < length t.lanes → g.whole ≡ (lane t.lanes p).whole → SameElsewhere t (with_lane t p g) p
elsewhere t p g many whole = record {
  inbox = refl;
  many = length-set t.lanes p g;
  whole = ap (λ (x : LaneView). x.whole) (lane_here t.lanes p g many) ∙ whole;
  others = λ q ne. lane_else t.lanes p q g ne;
}

-- where the tail was the number taken
pub found_none : (t t' : TakerOf) (p n : ℕ) → p < length t.lanes → t' ≡ with_lane t p (saw_tail (lane t.lanes p) n) → TailFound (lane t.lanes p) n
    → n ≡ length (taken_of t p)
    → FoundNone t t' p
found_none t t' p n many is found nothing = subst (λ (u : TakerOf). FoundNone t u p) (sym is) (
    let g : LaneView = lane t.lanes p in
    let here = lane_here t.lanes p (saw_tail g n) many in
    record {
      elsewhere = elsewhere t p (saw_tail g n) many refl;
      loaded = let a = ap (λ (x : LaneView). x.loads) here in omega (arith, a);
      found = ap (λ (x : LaneView). x.posted_seen) here ∙ nothing ∙ ap (λ (x : LaneView). length x.taken) (sym here);
      taken = ap (λ (x : LaneView). x.taken) here;
      all = λ l e. let w = found.whole l e in none_more g.taken w.1.0 l w.1.1 (sym w.0 ∙ nothing);
    })

pub same_trans : (a b c : TakerOf) (p : ℕ) → SameElsewhere a b p → SameElsewhere b c p → SameElsewhere a c p
same_trans a b c p x y = record { inbox = y.inbox ∙ x.inbox; many = y.many ∙ x.many; whole = y.whole ∙ x.whole; others = λ q ne. y.others q ne ∙ x.others q ne }

-- t' is t, but that it knows g of lane p
record Knows (t t' : TakerOf) (p : ℕ) (g : LaneView) : Type 0 where
  here : lane t'.lanes p ≡ g
  elsewhere : SameElsewhere t t' p
  there : p < length t'.lanes

knows_first : (t t' : TakerOf) (p : ℕ) (g : LaneView) → p < length t.lanes → t' ≡ with_lane t p g → g.whole ≡ (lane t.lanes p).whole → Knows t t' p g
knows_first t t' p g many is whole = subst (λ (u : TakerOf). Knows t u p g) (sym is)
    (record { here = lane_here t.lanes p g many; elsewhere = elsewhere t p g many whole; there = (let l = length-set t.lanes p g in omega (arith, l, many)) })

-- after a step that makes f of what was known
knows_next : (t t' u : TakerOf) (p : ℕ) (g : LaneView) (f : LaneView → LaneView) → ((x : LaneView) → (f x).whole ≡ x.whole) → Knows t t' p g
    → u ≡ with_lane t' p (f (lane t'.lanes p)) → Knows t u p (f g)
knows_next t t' u p g f whole k is =
    let n = knows_first t' u p (f (lane t'.lanes p)) k.there is (whole (lane t'.lanes p)) in
    record { here = n.here ∙ ap f k.here; elsewhere = same_trans t t' u p k.elsewhere n.elsewhere; there = n.there }

-- where the tail told of more, and four steps were made
pub took_from : (t t1 t2 t3 t4 : TakerOf) (p n a : ℕ) (b : ℤ) (x : Taken) → p < length t.lanes
    → t1 ≡ with_lane t p (saw_tail (lane t.lanes p) n) → TailFound (lane t.lanes p) n → n ≢ length (taken_of t p)
    → t2 ≡ with_lane t1 p (read_port (lane t1.lanes p) a) → t3 ≡ with_lane t2 p (read_value (lane t2.lanes p) b)
    → t4 ≡ with_lane t3 p (took_next (lane t3.lanes p))
    → x.poster ≡ p → x.serial ≡ length (taken_of t p) → x.item ≡ record { port = a; value = b } → TookFrom t t4 p x
took_from t t1 t2 t3 t4 p n a b x many e1 found more e2 e3 e4 poster serial item =
    let g : LaneView = lane t.lanes p in
    let k1 = knows_first t t1 p (saw_tail g n) many e1 refl in
    let k2 = knows_next t t1 t2 p (saw_tail g n) (λ y. read_port y a) (λ y. refl) k1 e2 in
    let k3 = knows_next t t2 t3 p (read_port (saw_tail g n) a) (λ y. read_value y b) (λ y. refl) k2 e3 in
    let k4 = knows_next t t3 t4 p (read_value (read_port (saw_tail g n) a) b) took_next (λ y. refl) k3 e4 in
    record {
      elsewhere = k4.elsewhere;
      poster = poster;
      serial = serial;
      taken = ap (λ (y : LaneView). y.taken) k4.here ∙ ap (λ (y : Post). g.taken ++ y ∷ []) (sym item);
      left = λ l e. let w = (found.whole l e).0 in let least = found.least in omega (arith, w, least, more);
    }
