-- Each kind of step on a word of a lane is allowed: it keeps the rule, and tells its seat what its play says.
use Rattle.std.proofs.Common.{◌≡◌, ℕ, ℤ, ◌+◌, ◌<◌, ◌^◌, List, length, get_or, set, Option, Some, None, sym, refl, ap, ◌∙◌, subst, arith, length-append, to_z, w64, ◌⊎◌, ⊎_elim, inl, inr}
use Rattle.std.proofs.lemmas.List.{get_or-set_same, get_or-set_other, set-get_or}
use mathlib.Core.Option.{some, none}
use lib.ListN.{get_elem?}
use Rattle.atomic_table.specs.Table.{State, Me, Step, step, keeps, Allows}
use Rattle.atomic_table.specs.Seated.{TableId}
use Rattle.sim_lanes.specs.Places.{cell, lane_at, end_of}
use Rattle.sim_lanes.specs.Views.{lane, of_poster, lanes_of, posters_of, knowing, IsPoster, IsTaker}
use Rattle.sim_lanes.specs.Steps.{AreKnown, saw_head, wrote_port, wrote_value, posted_next, saw_tail, read_port, read_value, took_next, HasRoom, HasWaiting, TailFound}
use Rattle.sim_lanes.specs.LaneRule.{OneLane}
use Rattle.sim_lanes.specs.LanesRule.{Lanes, FitsLane}
use Rattle.sim_lanes.specs.Plays.{next_cell, SeesHead, WritesPort, WritesValue, Posts, SeesTail, ReadsPort, ReadsValue, Takes}
use Rattle.sim_lanes.proofs.OneLanes.{SameBut, cell_within, head_loaded, port_stored, value_stored, tail_stored, tail_loaded, first_waiting, port_loaded, value_loaded, head_stored}
use Rattle.sim_lanes.proofs.AllLanes.{InLane, one_lane, word_there, poster_moves, taker_moves}
use Rattle.sim_lanes.specs.declared.view.PosterView.{PosterView}
use Rattle.sim_lanes.specs.declared.view.LaneView.{LaneView}
use Rattle.sim_lanes.specs.declared.view.View.{View}
use Rattle.sim_lanes.specs.declared.view.View.TheVariants.{Poster, Taker}

-- both words of the cell, where they are known
both_known : (a : Option ℕ) (b : Option ℤ) → AreKnown a b → (n : ℕ) × (z : ℤ) × (a ≡ Some n) × (b ≡ Some z)
both_known None b k = absurd k
both_known (Some n) None k = absurd k
both_known (Some n) (Some z) k = (n, z, refl, refl)

-- the words of the table, as a function
abbrev reads : List ℕ → ℕ → ℕ
reads words j = get_or words j 0

-- what a load asks, and what a store asks
abbrev pub MayLoad : {S : Type 0} → List ℕ → TableId → TableId → ℕ → Me S View → ℕ → (Step S → Me S View → ℕ → Me S View → Type 0) → Type 0
MayLoad cs table seat id me i play =
    (seat ≡ table) × (i < table.words) × Allows (Lanes cs) table.slots id me i (λ n. n) (play (step table.slots i 0 0 none) me)

abbrev pub MayStore : {S : Type 0} → List ℕ → TableId → TableId → ℕ → Me S View → ℕ → ℕ → (Step S → Me S View → ℕ → Me S View → Type 0) → Type 0
MayStore cs table seat id me i n play =
    (seat ≡ table) × (i < table.words) × Allows (Lanes cs) table.slots id me i (λ _. n) (λ _. play (step table.slots i n 0 none) me n)

module _ (cs : List ℕ) where
  stored : (words : List ℕ) (p i n : ℕ) → InLane cs p i → length words ≡ end_of 1 cs → reads (set words i n) i ≡ n
  stored words p i n in_lane long = get_or-set_same words i n 0 (let l = word_there cs p i in_lane in omega (arith, l, long))

  but : (words : List ℕ) (p i i' n : ℕ) → i ≡ i' → SameBut (reads words) (reads (set words i n)) (lane_at 1 cs p) (get_or cs p 0) i'
  but words p i i' n e j low high ne = get_or-set_other words i j n 0 (λ x. ne (x ∙ e))

  -- a word of a cell of lane p
  cell_in_lane : (p i k : ℕ) → p < length cs → 0 < get_or cs p 0
      → (i ≡ cell (lane_at 1 cs p) (get_or cs p 0) k) ⊎ (i ≡ cell (lane_at 1 cs p) (get_or cs p 0) k + 1) → InLane cs p i
  cell_in_lane p i k many some_room is =
      let w = cell_within (lane_at 1 cs p) (get_or cs p 0) k some_room in let w0 = w.0 in let w1 = w.1 in
      ⊎_elim (λ e. record { number = many; low = omega (arith, w0, e); high = omega (arith, w1, e) })
      (λ e. record { number = many; low = omega (arith, w0, e); high = omega (arith, w1, e) }) is

module _ {S : Type 0} (cs : List ℕ) (slots id : ℕ) (me : Me S View) where
  abbrev number : ℕ
  number = (of_poster me.0).number

  -- the lane of a poster, as the rule has it
  poster_lane : (s : State S View) (h : Lanes cs s) → IsPoster me.0 → get_elem? s.views id ≡ some me.0
      → (number < length cs) × OneLane (reads s.words) (lane_at 1 cs number) (get_or cs number 0) (of_poster me.0) (h.all.lanes number)
  poster_lane s h is here =
      let fits = h.fits id (Poster (of_poster me.0)) (here ∙ ap some is) in
      let made = fits.1 in let few = h.few in
      let many : number < length cs = omega (arith, made, few) in
      (many, subst (λ (v : PosterView). OneLane (reads s.words) (lane_at 1 cs number) (get_or cs number 0) v (h.all.lanes number)) fits.3 (h.each number many))

  pub loads_head : (i : ℕ) → IsPoster me.0 → i ≡ lane_at 1 cs number → Allows (Lanes cs) slots id me i (λ n. n) (SeesHead (step slots i 0 0 none) me)
  loads_head i is at s h homes here small =
      let mine = poster_lane s h is here in
      let rule = mine.1 in
      let n : ℕ = get_or s.words i 0 in
      let found : n ≡ reads s.words (lane_at 1 cs number) = ap (reads s.words) at in
      let in_lane : InLane cs number i = record { number = mine.0; low = omega (arith, at); high = omega (arith, at) } in
      let new = subst (λ (l : List ℕ). OneLane (reads l) (lane_at 1 cs number) (get_or cs number 0) (saw_head (of_poster me.0) n) (h.all.lanes number))
      (sym (set-get_or s.words i 0)) (head_loaded (reads s.words) _ _ (of_poster me.0) _ n found rule) in
      let head = rule.head in let r = rule.room in let c = rule.capacity_known in
      let len : length (of_poster me.0).posted ≡ length (h.all.lanes number).taken + length rule.waiting = ap length rule.posted ∙ length-append (h.all.lanes number).taken rule.waiting in (
        Poster (saw_head (of_poster me.0) n),
        keeps,
        tt,
        poster_moves cs s h id (of_poster me.0) (saw_head (of_poster me.0) n) i n (here ∙ ap some is) refl in_lane new,
        (refl, (omega (arith, found, head, len), omega (arith, found, head, len, r, c))),
      )

  pub stores_port : (i n : ℕ) → IsPoster me.0 → i ≡ cell (lane_at 1 cs number) (get_or cs number 0) (length (of_poster me.0).posted) → n < 2 ^ 32
      → HasRoom (of_poster me.0)
      → Allows (Lanes cs) slots id me i (λ _. n) (λ _. WritesPort (step slots i n 0 none) me n)
  stores_port i n is at small_port room s h homes here small =
      let mine = poster_lane s h is here in
      let rule = mine.1 in
      let in_lane = cell_in_lane cs number i (length (of_poster me.0).posted) mine.0 rule.some_room (inl at) in
      let now = subst (λ (k : ℕ). reads (set s.words i n) k ≡ n) at (stored cs s.words number i n in_lane h.words) in
      let new = port_stored (reads s.words) (reads (set s.words i n)) _ _ (of_poster me.0) _ n (but cs s.words number i _ n at) now small_port room rule in
      (Poster (wrote_port (of_poster me.0) n), keeps, tt, poster_moves cs s h id (of_poster me.0) (wrote_port (of_poster me.0) n) i n (here ∙ ap some is) refl in_lane new, refl)

  pub stores_value : (i n : ℕ) → IsPoster me.0 → i ≡ cell (lane_at 1 cs number) (get_or cs number 0) (length (of_poster me.0).posted) + 1
      → HasRoom (of_poster me.0)
      → Allows (Lanes cs) slots id me i (λ _. n) (λ _. WritesValue (step slots i n 0 none) me n)
  stores_value i n is at room s h homes here small =
      let mine = poster_lane s h is here in
      let rule = mine.1 in
      let in_lane = cell_in_lane cs number i (length (of_poster me.0).posted) mine.0 rule.some_room (inr at) in
      let now = subst (λ (k : ℕ). reads (set s.words i n) k ≡ n) at (stored cs s.words number i n in_lane h.words) in
      let new = value_stored (reads s.words) (reads (set s.words i n)) _ _ (of_poster me.0) _ n (but cs s.words number i _ n at) now room rule in
      let v : PosterView = wrote_value (of_poster me.0) (to_z w64 n) in
      (Poster v, keeps, tt, poster_moves cs s h id (of_poster me.0) v i n (here ∙ ap some is) refl in_lane new, refl)

  pub stores_tail : (i n : ℕ) → IsPoster me.0 → i ≡ lane_at 1 cs number + 1 → n ≡ length (of_poster me.0).posted + 1
      → AreKnown (of_poster me.0).port (of_poster me.0).value → n < 2 ^ 32
      → Allows (Lanes cs) slots id me i (λ _. n) (λ _. Posts (step slots i n 0 none) me n)
  stores_tail i n is at next written fits s h homes here small =
      let mine = poster_lane s h is here in
      let rule = mine.1 in
      let post = both_known (of_poster me.0).port (of_poster me.0).value written in
      let in_lane : InLane cs number i = record { number = mine.0; low = omega (arith, at); high = let r = rule.some_room in omega (arith, at, r) } in
      let now = subst (λ (k : ℕ). reads (set s.words i n) k ≡ n) at (stored cs s.words number i n in_lane h.words) in
      let new = tail_stored (reads s.words) (reads (set s.words i n)) _ _ (of_poster me.0) _ post.0 post.1 (but cs s.words number i _ n at) (now ∙ next) post.2 post.3 (omega (arith, next, fits)) rule in
      let v : PosterView = posted_next (of_poster me.0) in
      (Poster v, keeps, tt, poster_moves cs s h id (of_poster me.0) v i n (here ∙ ap some is) refl in_lane new, refl)

  -- ---- the taker
  -- a lane, as the rule has it
  record TakerLane (s : State S View) (h : Lanes cs s) (p : ℕ) : Type 0 where
    number : p < length cs
    fits : FitsLane cs h.all p (lane (lanes_of me.0) p)
    rule : OneLane (reads s.words) (lane_at 1 cs p) (get_or cs p 0) (h.all.posters p) (lane (lanes_of me.0) p)

  taker_lane : (s : State S View) (h : Lanes cs s) → IsTaker me.0 → get_elem? s.views id ≡ some me.0 → (p : ℕ) → p < length (lanes_of me.0) → TakerLane s h p
  taker_lane s h is here p many =
      let fits = h.fits id (Taker (posters_of me.0) (lanes_of me.0)) (here ∙ ap some is) in
      let long = fits.2 in
      let many' : p < length cs = omega (arith, many, long) in
      let fit = fits.3 p many' in
      record {
        number = many';
        fits = fit;
        rule = subst (λ (g : LaneView). OneLane (reads s.words) (lane_at 1 cs p) (get_or cs p 0) (h.all.posters p) g) fit.is (h.each p many');
      }

  -- the cell at the head of lane p
  cell_is : (s : State S View) (h : Lanes cs s) (p : ℕ) → TakerLane s h p
      → next_cell (lane (lanes_of me.0) p) ≡ cell (lane_at 1 cs p) (get_or cs p 0) (length (lane (lanes_of me.0) p).taken)
  cell_is s h p t = λ k. cell (t.fits.place k) (t.fits.capacity k) (length (lane (lanes_of me.0) p).taken)

  pub loads_tail : (p i : ℕ) → IsTaker me.0 → p < length (lanes_of me.0) → i ≡ (lane (lanes_of me.0) p).place + 1
      → Allows (Lanes cs) slots id me i (λ n. n) (SeesTail (step slots i 0 0 none) me)
  loads_tail p i is many at s h homes here small =
      let t = taker_lane s h is here p many in
      let fit = t.fits in let rule = t.rule in
      let g : LaneView = lane (lanes_of me.0) p in
      let n : ℕ = get_or s.words i 0 in
      let at' : i ≡ lane_at 1 cs p + 1 = at ∙ ap (λ (k : ℕ). k + 1) fit.place in
      let in_lane : InLane cs p i = record { number = t.number; low = omega (arith, at'); high = let r = rule.some_room in omega (arith, at', r) } in
      let found : n ≡ reads s.words (lane_at 1 cs p + 1) = ap (reads s.words) at' in
      let is_tail : n ≡ length (h.all.posters p).posted = found ∙ rule.tail in
      let len : length (h.all.posters p).posted ≡ length g.taken + length rule.waiting = ap length rule.posted ∙ length-append g.taken rule.waiting in
      let new = subst (λ (l : List ℕ). OneLane (reads l) (lane_at 1 cs p) (get_or cs p 0) (h.all.posters p) (saw_tail g n)) (sym (set-get_or s.words i 0))
      (tail_loaded (reads s.words) _ _ (h.all.posters p) g n found rule) in
      let T : ℕ → Type 0 = λ q. ((knowing me.0 p (saw_tail g n), me.1) ≡ (knowing me.0 q (saw_tail (lane (lanes_of me.0) q) n), me.1)) × TailFound (lane (lanes_of me.0) q) n in
      let told : T p = (
        refl,
        record {
          least = omega (arith, is_tail, len);
          few = (let f = rule.few in omega (arith, is_tail, f));
          whole = λ l e. let w = fit.whole l e in (is_tail ∙ ap length w.0, (rule.waiting, sym w.0 ∙ rule.posted));
        },
      ) in (
        knowing me.0 p (saw_tail g n),
        keeps,
        tt,
        taker_moves cs s h id (posters_of me.0) (lanes_of me.0) p (saw_tail g n) i n (here ∙ ap some is) in_lane refl refl refl new,
        λ p' many' e. let t' = taker_lane s h is here p' many' in let pl = t'.fits.place in let r' = t'.rule.some_room in
            subst T (one_lane cs p p' i in_lane (record { number = t'.number; low = omega (arith, e, pl); high = omega (arith, e, pl, r') })) told,
      )

  pub loads_port : (p i : ℕ) → IsTaker me.0 → p < length (lanes_of me.0) → i ≡ next_cell (lane (lanes_of me.0) p) → HasWaiting (lane (lanes_of me.0) p)
      → Allows (Lanes cs) slots id me i (λ n. n) (ReadsPort (step slots i 0 0 none) me)
  loads_port p i is many at more s h homes here small =
      let t = taker_lane s h is here p many in
      let rule = t.rule in
      let g : LaneView = lane (lanes_of me.0) p in
      let n : ℕ = get_or s.words i 0 in
      let at' = at ∙ cell_is s h p t in
      let in_lane = cell_in_lane cs p i (length g.taken) t.number rule.some_room (inl at') in
      let found : n ≡ reads s.words (cell (lane_at 1 cs p) (get_or cs p 0) (length g.taken)) = ap (reads s.words) at' in
      let first = first_waiting (reads s.words) _ _ (h.all.posters p) g more rule in
      let new = subst (λ (l : List ℕ). OneLane (reads l) (lane_at 1 cs p) (get_or cs p 0) (h.all.posters p) (read_port g n)) (sym (set-get_or s.words i 0))
      (port_loaded (reads s.words) _ _ (h.all.posters p) g n found more rule) in
      let T : ℕ → Type 0 = λ q. ((knowing me.0 p (read_port g n), me.1) ≡ (knowing me.0 q (read_port (lane (lanes_of me.0) q) n), me.1)) × (n < 2 ^ 32) in (
        knowing me.0 p (read_port g n),
        keeps,
        tt,
        taker_moves cs s h id (posters_of me.0) (lanes_of me.0) p (read_port g n) i n (here ∙ ap some is) in_lane refl refl refl new,
        λ p' many' e. let t' = taker_lane s h is here p' many' in
            subst T (one_lane cs p p' i in_lane (cell_in_lane cs p' i (length (lane (lanes_of me.0) p').taken) t'.number t'.rule.some_room (inl (e ∙ cell_is s h p' t'))))
            (refl, subst (λ (k : ℕ). k < 2 ^ 32) (sym found) first.2),
      )

  pub loads_value : (p i : ℕ) → IsTaker me.0 → p < length (lanes_of me.0) → i ≡ next_cell (lane (lanes_of me.0) p) + 1 → HasWaiting (lane (lanes_of me.0) p)
      → Allows (Lanes cs) slots id me i (λ n. n) (ReadsValue (step slots i 0 0 none) me)
  loads_value p i is many at more s h homes here small =
      let t = taker_lane s h is here p many in
      let rule = t.rule in
      let g : LaneView = lane (lanes_of me.0) p in
      let n : ℕ = get_or s.words i 0 in
      let at' = at ∙ ap (λ (k : ℕ). k + 1) (cell_is s h p t) in
      let in_lane = cell_in_lane cs p i (length g.taken) t.number rule.some_room (inr at') in
      let found : n ≡ reads s.words (cell (lane_at 1 cs p) (get_or cs p 0) (length g.taken) + 1) = ap (reads s.words) at' in
      let new = subst (λ (l : List ℕ). OneLane (reads l) (lane_at 1 cs p) (get_or cs p 0) (h.all.posters p) (read_value g (to_z w64 n))) (sym (set-get_or s.words i 0))
      (value_loaded (reads s.words) _ _ (h.all.posters p) g n found more rule) in
      let T : ℕ → Type 0 = λ q. (knowing me.0 p (read_value g (to_z w64 n)), me.1) ≡ (knowing me.0 q (read_value (lane (lanes_of me.0) q) (to_z w64 n)), me.1) in (
        knowing me.0 p (read_value g (to_z w64 n)),
        keeps,
        tt,
        taker_moves cs s h id (posters_of me.0) (lanes_of me.0) p (read_value g (to_z w64 n)) i n (here ∙ ap some is) in_lane refl refl refl new,
        λ p' many' e. let t' = taker_lane s h is here p' many' in
            subst T (one_lane cs p p' i in_lane (cell_in_lane cs p' i (length (lane (lanes_of me.0) p').taken) t'.number t'.rule.some_room
            (inr (e ∙ ap (λ (k : ℕ). k + 1) (cell_is s h p' t'))))) refl,
      )

  pub stores_head : (p i n : ℕ) → IsTaker me.0 → p < length (lanes_of me.0) → i ≡ (lane (lanes_of me.0) p).place → n ≡ length (lane (lanes_of me.0) p).taken + 1
      → AreKnown (lane (lanes_of me.0) p).port (lane (lanes_of me.0) p).value
      → Allows (Lanes cs) slots id me i (λ _. n) (λ _. Takes (step slots i n 0 none) me n)
  stores_head p i n is many at next read s h homes here small =
      let t = taker_lane s h is here p many in
      let g : LaneView = lane (lanes_of me.0) p in
      let at' : i ≡ lane_at 1 cs p = at ∙ t.fits.place in
      let post = both_known g.port g.value read in
      let in_lane : InLane cs p i = record { number = t.number; low = omega (arith, at'); high = omega (arith, at') } in
      let now = subst (λ (k : ℕ). reads (set s.words i n) k ≡ n) at' (stored cs s.words p i n in_lane h.words) in
      let new = head_stored (reads s.words) (reads (set s.words i n)) _ _ (h.all.posters p) g post.0 post.1 (but cs s.words p i _ n at') (now ∙ next) post.2 post.3 t.rule in
      let T : ℕ → Type 0 = λ q. (knowing me.0 p (took_next g), me.1) ≡ (knowing me.0 q (took_next (lane (lanes_of me.0) q)), me.1) in (
        knowing me.0 p (took_next g),
        keeps,
        tt,
        taker_moves cs s h id (posters_of me.0) (lanes_of me.0) p (took_next g) i n (here ∙ ap some is) in_lane refl refl refl new,
        λ p' many' e. let t' = taker_lane s h is here p' many' in let pl = t'.fits.place in
            subst T (one_lane cs p p' i in_lane (record { number = t'.number; low = omega (arith, e, pl); high = omega (arith, e, pl) })) refl,
      )
