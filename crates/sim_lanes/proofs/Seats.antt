-- The opening meets the rule, and a split and a join of seats keep it.
use Rattle.std.proofs.Common.{◌≡◌, ◌≢◌, ℕ, ℤ, zero, suc, ◌+◌, ◌<◌, true, false, List, [], ◌∷◌, ◌++◌, length, get_or, set, replicate, Some, None, rules, sym, refl, ap, ◌∙◌, subst, arith, length-append, ◌⊎◌, ⊎_elim, inl, inr}
use Rattle.std.specs.List.{All}
use Rattle.std.proofs.lemmas.List.{length-set}
use mathlib.Core.Option.{some, some-injective, some-ne-none}
use mathlib.Core.Logic.{dite}
use native.Mathlib.Decide.{ℕ_discrete}
use lib.ListN.{get_elem?}
use Rattle.atomic_table.specs.Table.{opening, Splits, Joins}
use Rattle.atomic_table.proofs.Lists.{at_set}
use Rattle.sim_types.specs.declared.setup.Post.{Post}
use Rattle.sim_lanes.specs.Places.{width, lane_at, end_of}
use Rattle.sim_lanes.specs.Views.{new_poster, new_lane, lanes_from, lane, of_poster, lanes_of, posters_of, IsPoster, IsTaker}
use Rattle.sim_lanes.specs.LaneRule.{OneLane}
use Rattle.sim_lanes.specs.LanesRule.{Knowledge, FitsLane, Fits, Lanes}
use Rattle.sim_lanes.specs.Plays.{split_off, next_poster, with_whole, joined_by}
use Rattle.sim_lanes.proofs.AllLanes.{changed, changed_here, changed_else, at_seat, taker_fits}
use Rattle.sim_lanes.specs.declared.view.PosterView.{PosterView}
use Rattle.sim_lanes.specs.declared.view.LaneView.{LaneView}
use Rattle.sim_lanes.specs.declared.view.View.{View}
use Rattle.sim_lanes.specs.declared.view.View.TheVariants.{Poster, Taker, Spent}

none_is_not : (n : ℕ) → None ≢ Some n
none_is_not n e = grind rules

none_is_no_value : (b : ℤ) → None ≢ Some b
none_is_no_value b e = grind rules

none_is_no_list : (l : List Post) → None ≢ Some l
none_is_no_list l e = grind rules

one_list : (l k : List Post) → Some l ≡ Some k → l ≡ k
one_list l k e = grind rules

at_end : {A : Type 0} (l : List A) (a b : A) (j : ℕ) → get_elem? (l ++ a ∷ []) j ≡ some b → (get_elem? l j ≡ some b) ⊎ ((j ≡ length l) × (a ≡ b))
at_end [] a b zero e = inr (refl, some-injective a b e)
at_end [] a b (suc j) e = absurd (some-ne-none b (sym e))
at_end (x ∷ xs) a b zero e = inl e
at_end (x ∷ xs) a b (suc j) e = ⊎_elim (λ y. inl y) (λ y. inr (ap suc y.0, y.1)) (at_end xs a b j e)

pub lanes_from_at : (place : ℕ) (cs : List ℕ) (p : ℕ) → p < length cs → lane (lanes_from place cs) p ≡ new_lane (lane_at place cs p) (get_or cs p 0)
lanes_from_at place [] p h = absurd (omega arith)
lanes_from_at place (c ∷ cs) zero h = refl
lanes_from_at place (c ∷ cs) (suc p) h = lanes_from_at (place + width c) cs p (omega arith)

pub lanes_from_length : (place : ℕ) (cs : List ℕ) → length (lanes_from place cs) ≡ length cs
lanes_from_length place [] = refl
lanes_from_length place (c ∷ cs) = ap suc (lanes_from_length (place + width c) cs)

abbrev zeros : ℕ → List ℕ
zeros n = replicate n 0

zero_there : (n j : ℕ) → get_or (zeros n) j 0 ≡ 0
zero_there zero j = refl
zero_there (suc n) zero = refl
zero_there (suc n) (suc j) = zero_there n j

length_zeros : (n : ℕ) → length (zeros n) ≡ n
length_zeros zero = refl
length_zeros (suc n) = ap suc (length_zeros n)

-- a new lane, whose words are 0
lane_opens : (m : ℕ → ℕ) (place capacity p : ℕ) → ((j : ℕ) → m j ≡ 0) → 0 < capacity
    → OneLane m place capacity (new_poster p capacity) (new_lane place capacity)
lane_opens m place capacity p zeroed some_room = record {
  waiting = [];
  posted = refl;
  head = zeroed place;
  tail = zeroed (place + 1);
  cells = tt;
  ports = λ k d l. absurd (omega arith);
  some_room = some_room;
  room = omega arith;
  few = omega arith;
  capacity_known = refl;
  head_seen = omega arith;
  tail_seen = omega arith;
  port_written = λ n e. absurd (none_is_not n e);
  value_written = λ b e. absurd (none_is_no_value b e);
  port_read = λ n e. absurd (none_is_not n e);
  value_read = λ b e. absurd (none_is_no_value b e);
}

-- what all seats know at first
abbrev known_first : List ℕ → Knowledge
known_first cs = record { made = 0; posters = λ p. new_poster p (get_or cs p 0); lanes = λ p. lane (lanes_from 1 cs) p; joined = λ p. false }

first_fits : (cs : List ℕ) (id : ℕ) (v : View) → get_elem? (Taker 0 (lanes_from 1 cs) ∷ []) id ≡ some v → Fits cs (known_first cs) id v
first_fits cs zero v e = subst (λ (u : View). Fits cs (known_first cs) 0 u) (some-injective _ v e) (
  refl,
  refl,
  lanes_from_length 1 cs,
  λ p many. record {
    is = refl;
    place = ap (λ (g : LaneView). g.place) (lanes_from_at 1 cs p many);
    capacity = ap (λ (g : LaneView). g.capacity) (lanes_from_at 1 cs p many);
    whole = λ l x. absurd (none_is_no_list l (ap (λ (g : LaneView). g.whole) (sym (lanes_from_at 1 cs p many)) ∙ x));
  },
)
first_fits cs (suc id) v e = absurd (some-ne-none v (sym e))

pub opens : {S : Type 0} (cs : List ℕ) → All (λ c. 0 < c) cs → Lanes {S = S} cs (opening (replicate (end_of 1 cs) 0) [] (Taker 0 (lanes_from 1 cs)))
opens cs some_room = record {
  all = known_first cs;
  words = length_zeros (end_of 1 cs);
  zero = zero_there (end_of 1 cs) 0;
  each = λ p many. subst (λ (g : LaneView). OneLane (λ j. get_or (replicate (end_of 1 cs) 0) j 0) (lane_at 1 cs p) (get_or cs p 0) (new_poster p (get_or cs p 0)) g)
      (sym (lanes_from_at 1 cs p many)) (lane_opens _ _ _ p (zero_there (end_of 1 cs)) (some_room p 0 many));
  seats = refl;
  few = omega arith;
  unmade = λ p le. (refl, refl);
  fits = λ id v e. first_fits cs id v e;
}

module _ (cs : List ℕ) (all : Knowledge) where
  -- what all know, after the next poster's seat was split off
  abbrev one_made : Knowledge
  one_made = record { made = suc all.made; posters = all.posters; lanes = all.lanes; joined = all.joined }

  -- and after poster p has joined, of which the taker then knows g
  abbrev has_joined : ℕ → LaneView → Knowledge
  has_joined p g = record { made = all.made; posters = all.posters; lanes = changed all.lanes p g; joined = changed all.joined p true }

  split_others : (j : ℕ) → j ≢ 0 → (u : View) → Fits cs all j u → Fits cs one_made j u
  split_others j apart (Poster w) f = let l = f.1 in (f.0, omega (arith, l), f.2, f.3)
  split_others j apart (Taker m lanes) f = absurd (apart f.0)
  split_others j apart Spent f = tt

  joined_others : (p : ℕ) (g : LaneView) (j : ℕ) → j ≢ 0 → j ≢ suc p → (u : View) → Fits cs all j u → Fits cs (has_joined p g) j u
  joined_others p g j apart two (Poster w) f =
      let f0 = f.0 in let ne : w.number ≢ p = λ x. two (f0 ∙ ap suc x) in (f.0, f.1, changed_else all.joined p w.number true ne ∙ f.2, f.3)
  joined_others p g j apart two (Taker m lanes) f = absurd (apart f.0)
  joined_others p g j apart two Spent f = tt

whole_known : (m : ℕ → ℕ) (place capacity : ℕ) (poster : PosterView) (taker : LaneView) (l : List Post) → OneLane m place capacity poster taker
    → OneLane m place capacity poster (with_whole taker l)
whole_known m place capacity poster taker l h = record {
  waiting = h.waiting;
  posted = h.posted;
  head = h.head;
  tail = h.tail;
  cells = h.cells;
  ports = h.ports;
  some_room = h.some_room;
  room = h.room;
  few = h.few;
  capacity_known = h.capacity_known;
  head_seen = h.head_seen;
  tail_seen = h.tail_seen;
  port_written = h.port_written;
  value_written = h.value_written;
  port_read = h.port_read;
  value_read = h.value_read;
}

-- 7: the first seat splits off the next poster's
pub splits : {S : Type 0} (cs : List ℕ) (id : ℕ) (v : View) → IsTaker v → posters_of v < length cs
    → Splits (Lanes {S = S} cs) id v (split_off v) (next_poster v)
splits cs id v is room s h here =
    let own = h.fits id (Taker (posters_of v) (lanes_of v)) (here ∙ ap some is) in
    let made : posters_of v ≡ h.all.made = own.1 in
    let fresh = h.unmade (posters_of v) (let e = made in omega (arith, e)) in
    let all = one_made cs h.all in
    let views = set s.views id (split_off v) in
    let long = length-set s.views id (split_off v) in let seats = h.seats in
    record {
      all = all;
      words = h.words;
      zero = h.zero;
      each = h.each;
      seats = length-append views (next_poster v ∷ []) ∙ omega (arith, long, seats);
      few = omega (arith, made);
      unmade = λ p le. h.unmade p (omega arith);
      fits = λ j u e. ⊎_elim
          (λ x. ⊎_elim
          (λ y. at_seat (Fits cs all) id j (split_off v) u y (
            own.0,
            (let q : posters_of v + 1 ≡ suc h.all.made = omega (arith, made) in q),
            own.2,
            λ q many. let fit = own.3 q many in record { is = fit.is; place = fit.place; capacity = fit.capacity; whole = fit.whole },
          ))
          (λ y. split_others cs h.all j (λ q. y.0 (q ∙ sym own.0)) u (h.fits j u y.1))
          (at_set s.views id j (split_off v) u x))
          (λ x. let there : j ≡ suc (posters_of v) = (let at = x.0 in omega (arith, long, seats, made, at)) in
          at_seat (Fits cs all) (suc (posters_of v)) j (next_poster v) u (there, x.1)
          (refl, (let q : posters_of v < suc h.all.made = omega (arith, made) in q), fresh.1, fresh.0 ∙ ap (λ (c : ℕ). new_poster (posters_of v) c) (sym (own.3 (posters_of v) room).capacity)))
          (at_end views (next_poster v) u j e);
    }

-- 8: the taker's seat takes in a poster's
pub joins : {S : Type 0} (cs : List ℕ) (id other : ℕ) (v w : View) → IsTaker v → IsPoster w → Joins (Lanes {S = S} cs) id v other w (joined_by v w) Spent
joins cs id other v w is_taker is_poster s h here apart there =
    let p : ℕ = (of_poster w).number in
    let own = h.fits id (Taker (posters_of v) (lanes_of v)) (here ∙ ap some is_taker) in
    let was : get_elem? s.views other ≡ some w = ⊎_elim (λ x. absurd (apart x.0)) (λ x. x.1) (at_set s.views id other (joined_by v w) w there) in
    let theirs = h.fits other (Poster (of_poster w)) (was ∙ ap some is_poster) in
    let made = theirs.1 in let few = h.few in
    let many : p < length cs = omega (arith, made, few) in
    let g : LaneView = with_whole (lane (lanes_of v) p) (of_poster w).posted in
    let all = has_joined cs h.all p g in
    let old = own.3 p many in
    let mine : all.lanes p ≡ g = changed_here h.all.lanes p g in
    let Keeps : LaneView → ℕ → Type 0 = λ x q. OneLane (λ j. get_or s.words j 0) (lane_at 1 cs q) (get_or cs q 0) (h.all.posters q) x in
    let new : FitsLane cs all p g = record {
      is = mine;
      place = old.place;
      capacity = old.capacity;
      whole = λ l e. (ap (λ (y : PosterView). y.posted) theirs.3 ∙ one_list (of_poster w).posted l e, changed_here h.all.joined p true);
    } in
    record {
      all = all;
      words = h.words;
      zero = h.zero;
      each = λ q many'. dite (ℕ_discrete q p)
          (λ e. subst (λ (k : ℕ). Keeps (all.lanes k) k) (sym e) (subst (λ (u : LaneView). Keeps u p) (sym mine)
          (whole_known _ _ _ _ (lane (lanes_of v) p) (of_poster w).posted (subst (λ (u : LaneView). Keeps u p) old.is (h.each p many)))))
          (λ ne. subst (λ (u : LaneView). Keeps u q) (sym (changed_else h.all.lanes p q g ne)) (h.each q many'));
      seats = length-set (set s.views id (joined_by v w)) other Spent ∙ length-set s.views id (joined_by v w) ∙ h.seats;
      few = h.few;
      unmade = λ q le. let e : q ≢ p = λ x. omega (arith, x) in ((h.unmade q le).0, changed_else h.all.joined p q true e ∙ (h.unmade q le).1);
      fits = λ j u e. ⊎_elim
          (λ x. at_seat (Fits cs all) other j Spent u x tt)
          (λ x. ⊎_elim
          (λ y. at_seat (Fits cs all) id j (joined_by v w) u y (
            own.0,
            own.1,
            length-set (lanes_of v) p g ∙ own.2,
            taker_fits cs h.all p g (lanes_of v) all own.2 many new
                (λ q many' ne. let fit = own.3 q many' in record {
                  is = changed_else h.all.lanes p q g ne ∙ fit.is;
                  place = fit.place;
                  capacity = fit.capacity;
                  whole = λ l e'. ((fit.whole l e').0, changed_else h.all.joined p q true ne ∙ (fit.whole l e').1);
                }),
          ))
          (λ y. joined_others cs h.all p g j (λ q. y.0 (q ∙ sym own.0)) (λ q. x.0 (q ∙ sym theirs.0)) u (h.fits j u y.1))
          (at_set s.views id j (joined_by v w) u x.1))
          (at_set (set s.views id (joined_by v w)) other j Spent u e);
    }
