-- A step on one lane keeps the rule of the table.
use Rattle.std.proofs.Common.{◌≡◌, ◌≢◌, ℕ, zero, suc, ◌+◌, ◌<◌, ◌≤◌, Bool, true, false, cond, eqb, eq-eqb, ne_eqb, List, [], ◌∷◌, length, get_or, set, rules, sym, refl, ap, ◌∙◌, subst, arith, ⊎_elim, lt_of_not-le}
use Rattle.std.proofs.lemmas.List.{length-set, get_or-set_same, get_or-set_other}
use mathlib.Core.Option.{some}
use mathlib.Core.Logic.{dite}
use native.Mathlib.Decide.{dec_le, ℕ_discrete}
use lib.ListN.{get_elem?}
use Rattle.atomic_table.specs.Table.{State}
use Rattle.atomic_table.proofs.Lists.{at_set}
use Rattle.sim_lanes.specs.Places.{width, lane_at, end_of}
use Rattle.sim_lanes.specs.Views.{new_lane, lane}
use Rattle.sim_lanes.specs.LaneRule.{OneLane}
use Rattle.sim_lanes.specs.LanesRule.{Knowledge, FitsLane, Fits, Lanes}
use Rattle.sim_lanes.proofs.OneLanes.{Same, unchanged}
use Rattle.sim_lanes.specs.declared.view.PosterView.{PosterView}
use Rattle.sim_lanes.specs.declared.view.LaneView.{LaneView}
use Rattle.sim_lanes.specs.declared.view.View.{View}
use Rattle.sim_lanes.specs.declared.view.View.TheVariants.{Poster, Taker, Spent}

-- ---- where the lanes lie
lane_low : (place : ℕ) (cs : List ℕ) (p : ℕ) → place ≤ lane_at place cs p
lane_low place [] p = omega arith
lane_low place (c ∷ cs) zero = omega arith
lane_low place (c ∷ cs) (suc p) = let l = lane_low (place + width c) cs p in omega arith

pub end_low : (place : ℕ) (cs : List ℕ) → place ≤ end_of place cs
end_low place [] = omega arith
end_low place (c ∷ cs) = let l = end_low (place + width c) cs in omega arith

pub lane_end : (place : ℕ) (cs : List ℕ) (p : ℕ) → p < length cs → lane_at place cs p + width (get_or cs p 0) ≤ end_of place cs
lane_end place [] p h = absurd (omega arith)
lane_end place (c ∷ cs) zero h = end_low (place + width c) cs
lane_end place (c ∷ cs) (suc p) h = lane_end (place + width c) cs p (omega arith)

lanes_follow : (place : ℕ) (cs : List ℕ) (p q : ℕ) → p < q → q < length cs → lane_at place cs p + width (get_or cs p 0) ≤ lane_at place cs q
lanes_follow place [] p q less h = absurd (omega arith)
lanes_follow place (c ∷ cs) p zero less h = absurd (omega arith)
lanes_follow place (c ∷ cs) zero (suc q) less h = lane_low (place + width c) cs q
lanes_follow place (c ∷ cs) (suc p) (suc q) less h = lanes_follow (place + width c) cs p q (omega arith) (omega arith)

-- the word i is of lane p
pub record InLane (cs : List ℕ) (p i : ℕ) : Type 0 where
  pub number : p < length cs
  pub low : lane_at 1 cs p ≤ i
  pub high : i < lane_at 1 cs p + width (get_or cs p 0)

-- a word is of one lane alone
pub one_lane : (cs : List ℕ) (p q i : ℕ) → InLane cs p i → InLane cs q i → p ≡ q
one_lane cs p q i a b =
    let a0 = a.number in let a1 = a.low in let a2 = a.high in let b0 = b.number in let b1 = b.low in let b2 = b.high in
    dite (ℕ_discrete p q) (λ e. e) (λ ne. dite (dec_le p q)
    (λ le. let f = lanes_follow 1 cs p q (let apart : p ≢ q = ne in omega arith) b0 in absurd (omega arith))
    (λ no. let f = lanes_follow 1 cs q p (lt_of_not-le no) a0 in absurd (omega arith)))

pub word_there : (cs : List ℕ) (p i : ℕ) → InLane cs p i → i < end_of 1 cs
word_there cs p i a = let l = lane_end 1 cs p a.number in let h = a.high in omega arith

not_zero : (cs : List ℕ) (p i : ℕ) → InLane cs p i → 0 ≢ i
not_zero cs p i a = let l = lane_low 1 cs p in let h = a.low in λ e. omega (arith, e)

-- a step on a word of lane p changes no word of lane q
other_lane : (cs words : List ℕ) (p q i n : ℕ) → InLane cs p i → q < length cs → q ≢ p
    → Same (λ j. get_or words j 0) (λ j. get_or (set words i n) j 0) (lane_at 1 cs q) (get_or cs q 0)
other_lane cs words p q i n at many apart j low high = get_or-set_other words i j n 0 (λ e. apart (sym (one_lane cs p q i at (record {
  number = many;
  low = subst (λ (k : ℕ). lane_at 1 cs q ≤ k) e low;
  high = subst (λ (k : ℕ). k < lane_at 1 cs q + width (get_or cs q 0)) e high;
}))))

-- ---- functions of a lane's number, changed at one
abbrev pub changed : {A : Type 0} → (ℕ → A) → ℕ → A → ℕ → A
changed f p a q = cond (eqb q p) a (f q)

pub changed_here : {A : Type 0} (f : ℕ → A) (p : ℕ) (a : A) → changed f p a p ≡ a
changed_here f p a = ap (λ (b : Bool). cond b a (f p)) (eq-eqb p p refl)

pub changed_else : {A : Type 0} (f : ℕ → A) (p q : ℕ) (a : A) → q ≢ p → changed f p a q ≡ f q
changed_else f p q a ne = ap (λ (b : Bool). cond b a (f q)) (ne_eqb q p ne)

-- a seat is the one that moved, or another one
pub at_seat : {A B : Type 0} (T : A → B → Type 0) (a a' : A) (b b' : B) → (a' ≡ a) × (b ≡ b') → T a b → T a' b'
at_seat {A = A} {B = B} T a a' b b' same h = subst (λ (x : A × B). T x.0 x.1) (λ k. (sym same.0 k, same.1 k)) h

true_is_not_false : (b : Bool) → b ≡ true → b ≡ false → ⊥
true_is_not_false b t f = grind (rules, t, f)

module _ (cs : List ℕ) (all : Knowledge) where
  -- what all know, after a step of poster p
  abbrev pub poster_knows : ℕ → PosterView → Knowledge
  poster_knows p v = record { made = all.made; posters = changed all.posters p v; lanes = all.lanes; joined = all.joined }

  -- and after a step of the taker on lane p
  abbrev pub taker_knows : ℕ → LaneView → Knowledge
  taker_knows p g = record { made = all.made; posters = all.posters; lanes = changed all.lanes p g; joined = all.joined }

  -- the other seats, after a step of poster p
  poster_others : (p : ℕ) (v : PosterView) (id j : ℕ) → id ≡ suc p → all.joined p ≡ false → j ≢ id → (u : View) → Fits cs all j u
      → Fits cs (poster_knows p v) j u
  poster_others p v id j is live apart (Poster w) f =
      let f0 = f.0 in let ne : w.number ≢ p = λ x. apart (f0 ∙ ap suc x ∙ sym is) in (f.0, f.1, f.2, changed_else all.posters p w.number v ne ∙ f.3)
  poster_others p v id j is live apart (Taker m lanes) f = (
    f.0,
    f.1,
    f.2,
    λ q many. let old = f.3 q many in record {
      is = old.is;
      place = old.place;
      capacity = old.capacity;
      whole = λ l e. let w = old.whole l e in let ne : q ≢ p = λ x. true_is_not_false (all.joined q) w.1 (ap all.joined x ∙ live) in
          (ap (λ (y : PosterView). y.posted) (changed_else all.posters p q v ne) ∙ w.0, w.1);
    },
  )
  poster_others p v id j is live apart Spent f = tt

  -- the other seats, after a step of the taker, which has seat 0
  taker_others : (p : ℕ) (g : LaneView) (j : ℕ) → j ≢ 0 → (u : View) → Fits cs all j u → Fits cs (taker_knows p g) j u
  taker_others p g j apart (Poster w) f = f
  taker_others p g j apart (Taker m lanes) f = absurd (apart f.0)
  taker_others p g j apart Spent f = tt

  -- what the taker knows of each lane, after it knows g of lane p
  pub taker_fits : (p : ℕ) (g : LaneView) (lanes : List LaneView) (all' : Knowledge) → length lanes ≡ length cs → p < length cs → FitsLane cs all' p g
      → ((q : ℕ) → q < length cs → q ≢ p → FitsLane cs all' q (lane lanes q)) → (q : ℕ) → q < length cs → FitsLane cs all' q (lane (set lanes p g) q)
  taker_fits p g lanes all' long there here else q many = dite (ℕ_discrete q p)
      (λ e. subst (λ (k : ℕ). FitsLane cs all' k (lane (set lanes p g) k)) (sym e)
      (subst (λ (y : LaneView). FitsLane cs all' p y) (sym (get_or-set_same lanes p g (new_lane 0 0) (omega (arith, there, long)))) here))
      (λ ne. subst (λ (y : LaneView). FitsLane cs all' q y) (sym (get_or-set_other lanes p q g (new_lane 0 0) ne)) (else q many ne))

module _ {S : Type 0} (cs : List ℕ) (s : State S View) (h : Lanes cs s) where
  -- the lane p of these ends keeps its rule
  abbrev Keeps : Knowledge → List ℕ → ℕ → Type 0
  Keeps all words p = OneLane (λ j. get_or words j 0) (lane_at 1 cs p) (get_or cs p 0) (all.posters p) (all.lanes p)

  -- all lanes do, where a step on a word of lane p keeps the rule of that lane
  keeps_each : (all : Knowledge) (p i n : ℕ) → InLane cs p i → Keeps all (set s.words i n) p
      → ((q : ℕ) → q ≢ p → (all.posters q ≡ h.all.posters q) × (all.lanes q ≡ h.all.lanes q)) → (q : ℕ) → q < length cs → Keeps all (set s.words i n) q
  keeps_each all p i n in_lane mine else q many = dite (ℕ_discrete q p)
      (λ e. subst (λ (k : ℕ). Keeps all (set s.words i n) k) (sym e) mine)
      (λ ne. subst (λ (x : PosterView × LaneView). OneLane (λ j. get_or (set s.words i n) j 0) (lane_at 1 cs q) (get_or cs q 0) x.0 x.1)
      (let same = else q ne in (λ k. (sym same.0 k, sym same.1 k)))
      (unchanged _ _ _ _ _ _ (other_lane cs s.words p q i n in_lane many ne) (h.each q many)))

  -- a poster's step: the word i becomes n, and what the poster knows v'
  pub poster_moves : (id : ℕ) (v v' : PosterView) (i n : ℕ)
      → get_elem? s.views id ≡ some (Poster v) → v'.number ≡ v.number → InLane cs v.number i
      → OneLane (λ j. get_or (set s.words i n) j 0) (lane_at 1 cs v.number) (get_or cs v.number 0) v' (h.all.lanes v.number)
      → Lanes cs (record { words = set s.words i n; homes = s.homes; views = set s.views id (Poster v') })
  poster_moves id v v' i n at same in_lane mine =
      let p : ℕ = v.number in
      let own = h.fits id (Poster v) at in
      let all = poster_knows cs h.all p v' in
      let here : all.posters p ≡ v' = changed_here h.all.posters p v' in
      record {
        all = all;
        words = length-set s.words i n ∙ h.words;
        zero = get_or-set_other s.words i 0 n 0 (not_zero cs p i in_lane) ∙ h.zero;
        each = keeps_each all p i n in_lane
            (subst (λ (u : PosterView). OneLane (λ j. get_or (set s.words i n) j 0) (lane_at 1 cs p) (get_or cs p 0) u (h.all.lanes p)) (sym here) mine)
            (λ q ne. (changed_else h.all.posters p q v' ne, refl));
        seats = length-set s.views id (Poster v') ∙ h.seats;
        few = h.few;
        unmade = λ q le. let less = own.1 in let e : q ≢ p = λ x. omega (arith, x) in (changed_else h.all.posters p q v' e ∙ (h.unmade q le).0, (h.unmade q le).1);
        fits = λ j u e. ⊎_elim
            (λ x. at_seat (Fits cs all) id j (Poster v') u x
            (subst (λ (k : ℕ). (id ≡ suc k) × (k < h.all.made) × (h.all.joined k ≡ false) × (all.posters k ≡ v')) (sym same) (own.0, own.1, own.2, here)))
            (λ x. poster_others cs h.all p v' id j own.0 own.2 x.0 u (h.fits j u x.1))
            (at_set s.views id j (Poster v') u e);
      }

  -- a step of the taker on lane p: the word i becomes n, and what it knows of the lane g
  pub taker_moves : (id m : ℕ) (lanes : List LaneView) (p : ℕ) (g : LaneView) (i n : ℕ) → get_elem? s.views id ≡ some (Taker m lanes) → InLane cs p i
      → g.place ≡ (lane lanes p).place → g.capacity ≡ (lane lanes p).capacity → g.whole ≡ (lane lanes p).whole
      → OneLane (λ j. get_or (set s.words i n) j 0) (lane_at 1 cs p) (get_or cs p 0) (h.all.posters p) g
      → Lanes cs (record { words = set s.words i n; homes = s.homes; views = set s.views id (Taker m (set lanes p g)) })
  taker_moves id m lanes p g i n at in_lane place capacity whole mine =
      let own = h.fits id (Taker m lanes) at in
      let all = taker_knows cs h.all p g in
      let here : all.lanes p ≡ g = changed_here h.all.lanes p g in
      let old = own.3 p in_lane.number in
      let new : FitsLane cs all p g = record { is = here; place = place ∙ old.place; capacity = capacity ∙ old.capacity; whole = λ l e. old.whole l (sym whole ∙ e) } in
      record {
        all = all;
        words = length-set s.words i n ∙ h.words;
        zero = get_or-set_other s.words i 0 n 0 (not_zero cs p i in_lane) ∙ h.zero;
        each = keeps_each all p i n in_lane
            (subst (λ (u : LaneView). OneLane (λ j. get_or (set s.words i n) j 0) (lane_at 1 cs p) (get_or cs p 0) (h.all.posters p) u) (sym here) mine)
            (λ q ne. (refl, changed_else h.all.lanes p q g ne));
        seats = length-set s.views id (Taker m (set lanes p g)) ∙ h.seats;
        few = h.few;
        unmade = h.unmade;
        fits = λ j u e. ⊎_elim
            (λ x. at_seat (Fits cs all) id j (Taker m (set lanes p g)) u x (
              own.0,
              own.1,
              length-set lanes p g ∙ own.2,
              taker_fits cs h.all p g lanes all own.2 in_lane.number new
                  (λ q many ne. let fit = own.3 q many in record { is = changed_else h.all.lanes p q g ne ∙ fit.is; place = fit.place; capacity = fit.capacity; whole = fit.whole }),
            ))
            (λ x. taker_others cs h.all p g j (λ z. x.0 (z ∙ sym own.0)) u (h.fits j u x.1))
            (at_set s.views id j (Taker m (set lanes p g)) u e);
      }
