-- The joins of a close, and what is left.
use Rattle.std.proofs.Common.{◌≡◌, ◌≢◌, ℕ, zero, suc, ◌+◌, ◌<◌, ◌≤◌, List, [], ◌∷◌, ◌++◌, length, drop, get_or, map, Option, Some, None, rules, sym, refl, ap, ◌∙◌, subst, arith, append_assoc}
use Rattle.std.proofs.lemmas.List.{append-nil, length-append, length-map, length-set}
use Rattle.std.proofs.Math.ListN.{get_or-map}
use mathlib.Core.Logic.{dite}
use native.Mathlib.Decide.{ℕ_discrete}
use Rattle.std.specs.Prelude.{slice_get}
use Rattle.atomic_table.specs.Table.{Me}
use Rattle.atomic_table.specs.Seated.{TableId}
use Rattle.sim_types.specs.declared.setup.Post.{Post}
use Rattle.sim_inbox.specs.Lists.{Begins, untaken}
use Rattle.sim_inbox.proofs.Untaken.{untaken_same}
use Rattle.sim_lanes.specs.Views.{new_lane, lane}
use Rattle.sim_lanes.specs.Plays.{with_whole}
use Rattle.sim_lanes.specs.Ends.{PosterOf, TakerOf, posted_of, taken_of, with_lane, inbox_of, IsTaking}
use Rattle.sim_lanes.specs.Closing.{posts_in, whole_of, wholes_of, EachJoined, AllJoined}
use Rattle.sim_lanes.specs.declared.lane_end.LaneEnd.{LaneEnd}
use Rattle.sim_lanes.specs.declared.view.LaneView.{LaneView}
use Rattle.sim_lanes.specs.declared.view.View.{View}
use Rattle.sim_lanes.proofs.AllLanes.{end_low}
use Rattle.sim_lanes.proofs.Taking.{lane_here, lane_else}

none_is_no_poster : (x : PosterOf) → None ≢ Some x
none_is_no_poster x e = grind rules

one_poster : (x y : PosterOf) → Some x ≡ Some y → x ≡ y
one_poster x y e = grind rules

-- the numbers of an inbox tell its table
pub one_table : (z z' : TableId) → inbox_of z ≡ inbox_of z' → z ≡ z'
one_table z z' e = λ k. record {
  words = get_or (e k) 0 0;
  slots = get_or (e k) 1 0;
  views_name = get_or (e k) 2 0;
  atom = get_or (e k) 3 0;
  block = get_or (e k) 4 0;
  offset = get_or (e k) 5 0;
  slot_names = drop 6 (e k);
}

pub some_words : {S : Type 0} {cs : List ℕ} {table seat : TableId} {me : Me S View} {ends : List LaneEnd} → IsTaking cs table seat me ends → 0 < table.words
some_words {cs = cs} h = let w = h.seated.words in let l = end_low 1 cs in omega (arith, w, l)

-- the posters behind `rest` have joined
pub record JoinedFrom (before now : TakerOf) (rest posters : List PosterOf) : Type 0 where
  pub inbox : now.inbox ≡ before.inbox
  pub many : length now.lanes ≡ length before.lanes
  pub taken : (p : ℕ) → taken_of now p ≡ taken_of before p
  pub more : List PosterOf
  pub posters_are : posters ≡ rest ++ more
  pub whole : (p : ℕ) → length rest ≤ p → p < length (map posted_of posters) → (lane now.lanes p).whole ≡ Some (get_or (map posted_of posters) p [])

pub joined_none : (before : TakerOf) (posters : List PosterOf) → JoinedFrom before before posters posters
joined_none before posters = record {
  inbox = refl;
  many = refl;
  taken = λ p. refl;
  more = [];
  posters_are = sym (append-nil posters);
  whole = λ p le less. let e = length-map posters posted_of in absurd (omega (arith, le, less, e));
}

pub there : (rest more : List PosterOf) (x : PosterOf) → slice_get (rest ++ x ∷ more) (length rest) ≡ Some x
there [] more x = refl
there (y ∷ ys) more x = there ys more x

posted_there : (rest more : List PosterOf) (x : PosterOf) → get_or (map posted_of (rest ++ x ∷ more)) (length rest) [] ≡ posted_of x
posted_there [] more x = refl
posted_there (y ∷ ys) more x = posted_there ys more x

pub joined_more : (before now then : TakerOf) (rest rest' posters : List PosterOf) (x : PosterOf) → JoinedFrom before now rest posters → rest ≡ rest' ++ x ∷ []
    → x.knows.number ≡ length rest' → x.knows.number < length now.lanes
    → then ≡ with_lane now x.knows.number (with_whole (lane now.lanes x.knows.number) (posted_of x)) → JoinedFrom before then rest' posters
joined_more before now then rest rest' posters x j popped number less is = subst (λ (u : TakerOf). JoinedFrom before u rest' posters) (sym is) (
    let p : ℕ = x.knows.number in
    let g : LaneView = with_whole (lane now.lanes p) (posted_of x) in
    let here : lane (with_lane now p g).lanes p ≡ g = lane_here now.lanes p g less in
    let are : posters ≡ rest' ++ (x ∷ j.more) = j.posters_are ∙ ap (λ (l : List PosterOf). l ++ j.more) popped ∙ append_assoc rest' (x ∷ []) j.more in
    let k : length rest ≡ length rest' + 1 = ap (λ (l : List PosterOf). length l) popped ∙ length-append rest' (x ∷ []) in
    record {
      inbox = j.inbox;
      many = length-set now.lanes p g ∙ j.many;
      taken = λ q. dite (ℕ_discrete q p)
          (λ e. subst (λ (n : ℕ). taken_of (with_lane now p g) n ≡ taken_of before n) (sym e) (ap (λ (y : LaneView). y.taken) here ∙ j.taken p))
          (λ ne. ap (λ (y : LaneView). y.taken) (lane_else now.lanes p q g ne) ∙ j.taken q);
      more = x ∷ j.more;
      posters_are = are;
      whole = λ q le small. dite (ℕ_discrete q p)
          (λ e. subst (λ (n : ℕ). (lane (with_lane now p g).lanes n).whole ≡ Some (get_or (map posted_of posters) n [])) (sym e)
          (ap (λ (y : LaneView). y.whole) here ∙ ap Some (sym (ap (λ (n : ℕ). get_or (map posted_of posters) n []) number
          ∙ ap (λ (l : List PosterOf). get_or (map posted_of l) (length rest') []) are ∙ posted_there rest' j.more x))))
          (λ ne. ap (λ (y : LaneView). y.whole) (lane_else now.lanes p q g ne) ∙ j.whole q (let n : q ≢ p = ne in omega (arith, k, number)) small);
    })

pub joined_all : (before now : TakerOf) (rest posters : List PosterOf) → length rest ≡ 0 → JoinedFrom before now rest posters
    → AllJoined before now (map posted_of posters)
joined_all before now rest posters nothing j = record { inbox = j.inbox; many = j.many; taken = j.taken; whole = λ p less. j.whole p (omega (arith, nothing)) less }

-- ---- after all joins
same_items : (xs ys : List (List Post)) → length xs ≡ length ys → ((i : ℕ) → i < length ys → get_or xs i [] ≡ get_or ys i []) → xs ≡ ys
same_items [] [] e h = refl
same_items [] (y ∷ ys) e h = absurd (omega (arith, e))
same_items (x ∷ xs) [] e h = absurd (omega (arith, e))
same_items (x ∷ xs) (y ∷ ys) e h = λ k. h 0 (omega arith) k ∷ same_items xs ys (omega (arith, e)) (λ i l. h (suc i) (omega arith)) k

module _ (before after : TakerOf) (lists : List (List Post)) (long : length lists ≡ length before.lanes) (j : AllJoined before after lists) where
  wholes_are : wholes_of after ≡ lists
  wholes_are = same_items (wholes_of after) lists (length-map after.lanes whole_of ∙ j.many ∙ sym long)
      (λ i l. get_or-map whole_of after.lanes i (new_lane 0 0) ∙ ap posts_in (j.whole i l))

  pub all_left : untaken (taken_of after) 0 (wholes_of after) ≡ untaken (taken_of before) 0 lists
  all_left = untaken_same (taken_of before) (taken_of after) 0 (wholes_of after) (λ p le. j.taken p) ∙ ap (untaken (taken_of before) 0) wholes_are

  pub each_joined : EachJoined after
  each_joined p l = let m = j.many in let w = j.whole p (omega (arith, long, m, l)) in w ∙ ap (λ (o : Option (List Post)). Some (posts_in o)) (sym w)

found_at : (posters : List PosterOf) (p : ℕ) (x : PosterOf) → slice_get posters p ≡ Some x
    → (p < length posters) × (get_or (map posted_of posters) p [] ≡ posted_of x)
found_at [] p x e = absurd (none_is_no_poster x e)
found_at (y ∷ ys) zero x e = (omega arith, ap posted_of (one_poster y x e))
found_at (y ∷ ys) (suc p) x e = let f = found_at ys p x e in let l = f.0 in (omega arith, f.1)

pub begins_each : (before after : TakerOf) (posters : List PosterOf) → length posters ≡ length before.lanes → AllJoined before after (map posted_of posters)
    → ((p : ℕ) → p < length after.lanes → Begins (taken_of after p) (whole_of (lane after.lanes p)))
    → (p : ℕ) (x : PosterOf) → slice_get posters p ≡ Some x → Begins (taken_of before p) (posted_of x)
begins_each before after posters e j begins p x at =
    let f = found_at posters p x at in let less = f.0 in let m = j.many in let n = length-map posters posted_of in
    let w : whole_of (lane after.lanes p) ≡ posted_of x = ap posts_in (j.whole p (omega (arith, less, n))) ∙ f.1 in
    subst (λ (l : List Post). Begins l (posted_of x)) (j.taken p) (subst (λ (l : List Post). Begins (taken_of after p) l) w (begins p (omega (arith, less, m, e))))
