-- Where an opening lays the lanes, and the ends that it makes.
use Rattle.std.proofs.Common.{◌≡◌, ◌≢◌, ℕ, zero, suc, ◌+◌, ◌<◌, ◌≤◌, ◌^◌, List, [], ◌∷◌, ◌++◌, length, take, get_or, Some, None, rules, sym, refl, ap, ◌∙◌, subst, arith, ◌⊎◌, ⊎_elim, inl, inr}
use Rattle.std.proofs.lemmas.List.{length-append, take_more}
use mathlib.Core.Logic.{dite}
use native.Mathlib.Decide.{ℕ_discrete}
use Rattle.std.specs.Prelude.{slice_get}
use Rattle.std.specs.List.{All}
use Rattle.atomic_table.specs.Table.{Me, Splits}
use Rattle.atomic_table.specs.Seated.{TableId}
use Rattle.sim_types.specs.declared.setup.Post.{Post}
use Rattle.sim_lanes.specs.Places.{end_of, lane_at, width}
use Rattle.sim_lanes.specs.Views.{new_poster, lane, lanes_from}
use Rattle.sim_lanes.specs.LanesRule.{Lanes}
use Rattle.sim_lanes.specs.Plays.{split_off, next_poster}
use Rattle.sim_lanes.specs.Ends.{PosterOf, KnowsLane, IsPosting, IsTaking, no_end, inbox_of, taker_of, taken_of, posted_of, AreInOrder}
use Rattle.sim_lanes.specs.Opening.{AreEnds, HasSplit, fresh_poster, fresh_posters}
use Rattle.sim_lanes.specs.declared.lane_end.LaneEnd.{LaneEnd}
use Rattle.sim_lanes.specs.declared.view.LaneView.{LaneView}
use Rattle.sim_lanes.specs.declared.view.View.{View}
use Rattle.sim_lanes.specs.declared.view.View.TheVariants.{Poster, Taker}
use Rattle.sim_lanes.proofs.AllLanes.{end_low}
use Rattle.sim_lanes.proofs.Seats.{lanes_from_at, lanes_from_length, splits}

lane_at_end : (place : ℕ) (cs : List ℕ) (p : ℕ) → p < length cs → lane_at place cs p ≡ end_of place (take p cs)
lane_at_end place [] p h = absurd (omega arith)
lane_at_end place (c ∷ cs) zero h = refl
lane_at_end place (c ∷ cs) (suc p) h = lane_at_end (place + width c) cs p (omega arith)

end_snoc : (place : ℕ) (cs : List ℕ) (c : ℕ) → end_of place (cs ++ c ∷ []) ≡ end_of place cs + width c
end_snoc place [] c = refl
end_snoc place (d ∷ ds) c = end_snoc (place + width d) ds c

-- the first i lanes have their ends, and the next one lies at `place`
pub record EndsUpto (cs : List ℕ) (ends : List LaneEnd) (i place : ℕ) : Type 0 where
  pub many : length ends ≡ i
  pub next : place ≡ end_of 1 (take i cs)
  pub each : (p : ℕ) → p < i → p < length cs → KnowsLane cs p (lane (lanes_from 1 cs) p) (get_or ends p no_end)

pub ends_none : (cs : List ℕ) → EndsUpto cs [] 0 1
ends_none cs = record { many = refl; next = refl; each = λ p l. absurd (omega arith) }

get_or_last : (ends : List LaneEnd) (x : LaneEnd) (p : ℕ) → p ≡ length ends → get_or (ends ++ x ∷ []) p no_end ≡ x
get_or_last [] x zero e = refl
get_or_last [] x (suc p) e = absurd (omega (arith, e))
get_or_last (y ∷ ys) x zero e = absurd (omega (arith, e))
get_or_last (y ∷ ys) x (suc p) e = get_or_last ys x p (omega (arith, e))

get_or_before : (ends : List LaneEnd) (x : LaneEnd) (p : ℕ) → p < length ends → get_or (ends ++ x ∷ []) p no_end ≡ get_or ends p no_end
get_or_before [] x p l = absurd (omega arith)
get_or_before (y ∷ ys) x zero l = refl
get_or_before (y ∷ ys) x (suc p) l = get_or_before ys x p (omega arith)

pub ends_more : (cs : List ℕ) (ends ends' : List LaneEnd) (i place place' capacity : ℕ) → i < length cs → All (λ c. 0 < c) cs → capacity ≡ get_or cs i 0
    → place' ≡ place + width capacity → place' < 2 ^ 63 → ends' ≡ ends ++ record { place = place; capacity = capacity; count = 0 } ∷ []
    → EndsUpto cs ends i place → EndsUpto cs ends' (i + 1) place'
ends_more cs ends ends' i place place' capacity less some_room is further small are h = subst (λ (l : List LaneEnd). EndsUpto cs l (i + 1) place') (sym are) (
    let x : LaneEnd = record { place = place; capacity = capacity; count = 0 } in
    let m = h.many in let next = h.next in
    let at : place ≡ lane_at 1 cs i = next ∙ sym (lane_at_end 1 cs i less) in
    record {
      many = length-append ends (x ∷ []) ∙ ap (λ (n : ℕ). n + 1) m;
      next = (let e = end_snoc 1 (take i cs) (get_or cs i 0) in
          let t : place' ≡ end_of 1 (take i cs ++ get_or cs i 0 ∷ []) = omega (arith, e, next, further, is) in t ∙ ap (end_of 1) (sym (take_more cs i 0 less)));
      each = λ p l l'. dite (ℕ_discrete p i)
          (λ e. subst (λ (k : ℕ). KnowsLane cs k (lane (lanes_from 1 cs) k) (get_or (ends ++ x ∷ []) k no_end)) (sym e)
          (subst (λ (y : LaneEnd). KnowsLane cs i (lane (lanes_from 1 cs) i) y) (sym (get_or_last ends x i (sym m)))
          (subst (λ (g : LaneView). KnowsLane cs i g x) (sym (lanes_from_at 1 cs i less)) (record {
            own = record {
              there = less;
              place = at;
              capacity = is;
              some_room = subst (λ (n : ℕ). 0 < n) (sym is) (some_room i 0 less);
              small = subst (λ (n : ℕ). n < 2 ^ 63) further small;
              count = refl;
            };
            place_known = at;
            capacity_known = is;
          }))))
          (λ ne. subst (λ (y : LaneEnd). KnowsLane cs p (lane (lanes_from 1 cs) p) y) (sym (get_or_before ends x p (let n : p ≢ i = ne in omega (arith, m))))
          (h.each p (let n : p ≢ i = ne in omega arith) l'));
    })

pub ends_all : (cs : List ℕ) (ends : List LaneEnd) (i place : ℕ) → i ≡ length cs → EndsUpto cs ends i place → AreEnds cs ends
ends_all cs ends i place e h p l = h.each p (omega (arith, e, l)) l

-- ---- the posters
one_poster : (x y : PosterOf) → Some x ≡ Some y → x ≡ y
one_poster x y e = grind rules

none_is_no_poster : (x : PosterOf) → None ≢ Some x
none_is_no_poster x e = grind rules

pub length_fresh : (z : TableId) (cs : List ℕ) (n : ℕ) → length (fresh_posters z cs n) ≡ n
length_fresh z cs zero = refl
length_fresh z cs (suc n) = length-append (fresh_posters z cs n) (fresh_poster z cs n ∷ []) ∙ (let e = length_fresh z cs n in omega (arith, e))

at_snoc : (l : List PosterOf) (a b : PosterOf) (j : ℕ) → slice_get (l ++ a ∷ []) j ≡ Some b → (slice_get l j ≡ Some b) ⊎ ((j ≡ length l) × (a ≡ b))
at_snoc [] a b zero e = inr (refl, one_poster a b e)
at_snoc [] a b (suc j) e = absurd (none_is_no_poster b e)
at_snoc (x ∷ xs) a b zero e = inl e
at_snoc (x ∷ xs) a b (suc j) e = ⊎_elim (λ y. inl y) (λ y. inr (ap suc y.0, y.1)) (at_snoc xs a b j e)

fresh_at : (z : TableId) (cs : List ℕ) (n p : ℕ) (x : PosterOf) → slice_get (fresh_posters z cs n) p ≡ Some x → x ≡ fresh_poster z cs p
fresh_at z cs zero p x e = absurd (none_is_no_poster x e)
fresh_at z cs (suc n) p x e = ⊎_elim (λ y. fresh_at z cs n p x y) (λ y. sym y.1 ∙ ap (fresh_poster z cs) (sym (length_fresh z cs n) ∙ sym y.0))
    (at_snoc (fresh_posters z cs n) (fresh_poster z cs n) x p e)

pub posters_own : (z seat : TableId) (cs : List ℕ) (n : ℕ) → seat ≡ z → AreInOrder (inbox_of seat) (fresh_posters z cs n)
posters_own z seat cs n same p x e =
    let is = fresh_at z cs n p x e in (ap (λ (y : PosterOf). y.knows.number) is, ap (λ (y : PosterOf). y.inbox) is ∙ ap inbox_of (sym same))

pub posters_fresh : (z : TableId) (cs : List ℕ) (n : ℕ) (p : ℕ) (x : PosterOf) → slice_get (fresh_posters z cs n) p ≡ Some x
    → (posted_of x ≡ []) × (x.knows.capacity ≡ get_or cs p 0)
posters_fresh z cs n p x e = let is = fresh_at z cs n p x e in (ap posted_of is, ap (λ (y : PosterOf). y.knows.capacity) is)

-- ---- the taker
none_taken : (place : ℕ) (cs : List ℕ) (p : ℕ) → (lane (lanes_from place cs) p).taken ≡ []
none_taken place [] p = refl
none_taken place (c ∷ cs) zero = refl
none_taken place (c ∷ cs) (suc p) = none_taken (place + width c) cs p

module _ {S : Type 0} (cs : List ℕ) (table seat : TableId) (me : Me S View) (n : ℕ) (h : HasSplit cs table seat me n) where
  pub is_taking : (ends : List LaneEnd) → length ends ≡ length cs → length cs ≤ 16 → AreEnds cs ends → IsTaking cs table seat me ends
  is_taking ends many few each = subst (λ (m : Me S View). IsTaking cs table seat m ends) (sym h.knows) (record {
    seated = h.seated;
    no_slots = refl;
    is_taker = refl;
    few = few;
    ends_many = many;
    lanes_many = lanes_from_length 1 cs;
    each = each;
  })

  pub nothing_taken : (p : ℕ) → taken_of (taker_of seat me.0) p ≡ []
  nothing_taken p = subst (λ (m : Me S View). taken_of (taker_of seat m.0) p ≡ []) (sym h.knows) (none_taken 1 cs p)

  pub many_lanes : length (taker_of seat me.0).lanes ≡ length cs
  many_lanes = subst (λ (m : Me S View). length (taker_of seat m.0).lanes ≡ length cs) (sym h.knows) (lanes_from_length 1 cs)

  pub may_split : (id : ℕ) → n < length cs → (seat ≡ table) × (0 < table.words) × Splits {S = S} (Lanes cs) id me.0 (split_off me.0) (next_poster me.0)
  may_split id less =
      let w = h.seated.words in let l = end_low 1 cs in (
        h.seated.same_table,
        omega (arith, w, l),
        subst (λ (m : Me S View). Splits {S = S} (Lanes cs) id m.0 (split_off m.0) (next_poster m.0)) (sym h.knows)
            (splits cs id (Taker n (lanes_from 1 cs)) refl less),
      )

  -- the next poster, whose seat was split off this one
  pub is_posting : (seat' : TableId) (own : Me S View) (ends : List LaneEnd) → n < length cs → AreEnds cs ends → seat' ≡ seat → own ≡ (next_poster me.0, [])
      → IsPosting cs table seat' own (get_or ends n no_end)
  is_posting seat' own ends less each same is =
      let e = each n less in
      let bare : View → Me S View = λ v. (v, []) in
      let first : own ≡ bare (Poster (new_poster n (lane (lanes_from 1 cs) n).capacity)) = is ∙ ap (λ (m : Me S View). bare (next_poster m.0)) h.knows in
      let count : (get_or ends n no_end).count ≡ 0 = e.own.count ∙ ap (λ (l : List Post). length l) (none_taken 1 cs n) in
      subst (λ (m : Me S View). IsPosting cs table seat' m (get_or ends n no_end)) (sym first) (record {
        seated = record { same_table = same ∙ h.seated.same_table; words = h.seated.words };
        no_slots = refl;
        is_poster = refl;
        own = record { there = less; place = e.own.place; capacity = e.own.capacity; some_room = e.own.some_room; small = e.own.small; count = count };
        capacity_known = e.capacity_known;
        few = omega (arith, count);
      })
