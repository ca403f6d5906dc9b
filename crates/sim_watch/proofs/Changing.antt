-- After units more, the resources at the places that were touched are changed, and all others are watched on as they are.
use Rattle.std.proofs.Common.{◌≡◌, ◌≢◌, ◌<◌, ◌≤◌, ◌≤ℤ◌, ℕ, ◌+◌, ℤ, ◌⊎◌, inl, inr, List, [], length, take, Bool, true, false, ◌||◌, set, get_or, refl, sym, ap, ◌∙◌, subst, arith}
use Rattle.std.specs.Prelude.{◌==◌}
use Rattle.std.proofs.lemmas.Bool.{cases_eq, eq-eqb, eqb-true, true≢false}
use Rattle.std.proofs.lemmas.List.{get_or-set_same, get_or-set_other, length-set, take_all}
use Rattle.std.proofs.lemmas.List.Elements.{All-set}
use Rattle.std.proofs.lemmas.List.Folds.{list_any_more}
use Rattle.std.proofs.lemmas.Int.{ints}
use Rattle.sim_types.specs.declared.line.Measure.{Measure}
use Rattle.sim_machine.specs.State.{State}
use Rattle.sim_machine.specs.Measures.{measure_at}
use Rattle.sim_machine_law.specs.Courses.{Run, state_after}
use Rattle.sim_shared_model.specs.Measuring.{is_one_of}
use Rattle.sim_steps_model.specs.StandsFor.{StandsFor}
use Rattle.sim_script_model.specs.Scripts.{Script}
use Rattle.sim_kernel.specs.KernelOf.{KernelOf}
use Rattle.sim_types.specs.Scenarios.{ScenarioOf}
use Rattle.sim_watch.specs.Watched.{WatchedOf, IsWatched, IsSteady}
use Rattle.sim_watch.specs.Following.{time_after, measure_after, HasMoved, AreUpTo, AreWatched}
use Rattle.sim_watch.proofs.Watching.{stays_watched}

-- what is watched at these places is changed, n units after the first k, and what is watched at others is not yet
pub record AreChanged (r : Run Script) (k n : ℕ) (places : List ℕ) (rows : List WatchedOf) : Type 0 where
  pub all : length rows ≡ length r.plan.setup.resources
  pub changed : (res : ℕ) (d : WatchedOf) → res < length rows → is_one_of res places ≡ true
      → IsWatched (time_after r) (measure_after r res) (k + n) (get_or rows res d)
  pub others : (res : ℕ) (d : WatchedOf) → res < length rows → is_one_of res places ≡ false
      → IsWatched (time_after r) (measure_after r res) k (get_or rows res d)

module _ (r : Run Script) (k n : ℕ) (touched : List ℕ) (kernel : KernelOf Script ScenarioOf) (moved : HasMoved r k n touched kernel) where
  steady : (res : ℕ) → res < length r.plan.setup.resources → IsSteady (time_after r) (measure_after r res) k n
  steady res within = record { same_time = moved.same_time; same_measure = moved.same_measures res within }

  -- before the first place
  pub none_changed : (rows : List WatchedOf) → AreWatched r k rows → AreChanged r k n [] rows
  none_changed rows h =
      record {
        all = h.all;
        changed = λ res d within one. absurd (cc);
        others = λ res d within other. h.each res d within;
      }

  -- behind the last place
  pub all_changed : (rows : List WatchedOf) → AreChanged r k n touched rows → AreWatched r (k + n) rows
  all_changed rows h = record { all = h.all; each = λ res d within. by res d within (is_one_of res touched) refl }
    where
      by : (res : ℕ) (d : WatchedOf) → res < length rows → (b : Bool) → is_one_of res touched ≡ b
          → IsWatched (time_after r) (measure_after r res) (k + n) (get_or rows res d)
      by res d within true is = h.changed res d within is
      by res d within false is =
          let there : res < length r.plan.setup.resources = rw h.all at within in
          stays_watched (time_after r) (measure_after r res) k (get_or rows res d) (h.others res d within is) n (steady res there) moved.some (moved.others res there is)

  pub changed_whole : (rows : List WatchedOf) (i : ℕ) → length touched ≤ i → AreChanged r k n (take i touched) rows
      → AreWatched r (k + n) rows
  changed_whole rows i past h = all_changed rows (subst (λ places. AreChanged r k n places rows) (take_all i touched past) h)

  -- a place more
  module _ (places : List ℕ) (i p d0 : ℕ) (below : i < length places) (item : p ≡ get_or places i d0) (rows : List WatchedOf)
      (h : AreChanged r k n (take i places) rows) where
    is_more : (res : ℕ) → is_one_of res (take (i + 1) places) ≡ (is_one_of res (take i places) || (p == res))
    is_more res = list_any_more (λ q. q == res) places i d0 below ∙ ap (λ q. is_one_of res (take i places) || (q == res)) (sym item)

    other_place : (res : ℕ) → res ≢ p → is_one_of res (take (i + 1) places) ≡ is_one_of res (take i places)
    other_place res differs = is_more res ∙ by (p == res) (is_one_of res (take i places)) refl
      where
        by : (b x : Bool) → (p == res) ≡ b → (x || b) ≡ x
        by true x is = absurd (differs (sym (eqb-true p res is)))
        by false true is = refl
        by false false is = refl

    this_place : is_one_of p (take (i + 1) places) ≡ true
    this_place = is_more p ∙ (ap (λ b. is_one_of p (take i places) || b) (eq-eqb p p refl) ∙ by (is_one_of p (take i places)))
      where
        by : (x : Bool) → (x || true) ≡ true
        by true = refl
        by false = refl

    -- where no resource is
    pub none_there : length rows ≤ p → AreChanged r k n (take (i + 1) places) rows
    none_there past =
        record {
          all = h.all;
          changed = λ res d within one. h.changed res d within (sym (other_place res (apart res within)) ∙ one);
          others = λ res d within other. h.others res d within (sym (other_place res (apart res within)) ∙ other);
        }
      where
        apart : (res : ℕ) → res < length rows → res ≢ p
        apart res within is = omega (arith, within, is, past)

    -- where one is
    module _ (w old : WatchedOf) (there : p < length rows) (was : get_or rows p old ≡ old)
        (first : IsWatched (time_after r) (measure_after r p) k old → IsWatched (time_after r) (measure_after r p) (k + n) w)
        (again : IsWatched (time_after r) (measure_after r p) (k + n) old → IsWatched (time_after r) (measure_after r p) (k + n) w) where
      abbrev rows_then : List WatchedOf
      rows_then = set rows p w

      now_at : IsWatched (time_after r) (measure_after r p) (k + n) w
      now_at = by (is_one_of p (take i places)) refl
        where
          by : (b : Bool) → is_one_of p (take i places) ≡ b → IsWatched (time_after r) (measure_after r p) (k + n) w
          by true is = again (subst (IsWatched (time_after r) (measure_after r p) (k + n)) was (h.changed p old there is))
          by false is = first (subst (IsWatched (time_after r) (measure_after r p) k) was (h.others p old there is))

      changed_by : (res : ℕ) (d : WatchedOf) → res < length rows → is_one_of res (take (i + 1) places) ≡ true → (res ≡ p) ⊎ (res ≡ p → ⊥)
          → IsWatched (time_after r) (measure_after r res) (k + n) (get_or rows_then res d)
      changed_by res d within one (inl is) =
          subst (λ (q : ℕ). IsWatched (time_after r) (measure_after r q) (k + n) (get_or rows_then q d)) (sym is)
          (subst (IsWatched (time_after r) (measure_after r p) (k + n)) (sym (get_or-set_same rows p w d there)) now_at)
      changed_by res d within one (inr differs) =
          subst (IsWatched (time_after r) (measure_after r res) (k + n)) (sym (get_or-set_other rows p res w d differs))
          (h.changed res d within (sym (other_place res differs) ∙ one))

      others_by : (res : ℕ) (d : WatchedOf) → res < length rows → is_one_of res (take (i + 1) places) ≡ false → (res ≡ p) ⊎ (res ≡ p → ⊥)
          → IsWatched (time_after r) (measure_after r res) k (get_or rows_then res d)
      others_by res d within other (inl is) =
          absurd (true≢false (sym this_place ∙ subst (λ (q : ℕ). is_one_of q (take (i + 1) places) ≡ false) is other))
      others_by res d within other (inr differs) =
          subst (IsWatched (time_after r) (measure_after r res) k) (sym (get_or-set_other rows p res w d differs))
          (h.others res d within (sym (other_place res differs) ∙ other))

      pub one_changed : AreChanged r k n (take (i + 1) places) rows_then
      one_changed =
          record {
            all = length-set rows p w ∙ h.all;
            changed = λ res d within one. changed_by res d (rw length-set at within) one (cases_eq res p);
            others = λ res d within other. others_by res d (rw length-set at within) other (cases_eq res p);
          }

-- ---- as the places are gone through

-- as many as are in their places in the kernel, none of which tells of a later time, those at the first i places changed
pub record ChangesSo (kernel : KernelOf Script ScenarioOf) (touched : List ℕ) (now : ℤ) (old : List WatchedOf) (i : ℕ) (rows : List WatchedOf) : Type 0 where
  pub all : length rows ≡ length kernel.parts.setup.resources
  pub up_to : AreUpTo now rows
  pub changed : (r : Run Script) (k n : ℕ) → HasMoved r k n touched kernel → AreWatched r k old → AreChanged r k n (take i touched) rows

module _ (kernel : KernelOf Script ScenarioOf) (now : ℤ) (old : List WatchedOf) (i p d0 : ℕ) (items : List ℕ)
    (below : i < length items) (item : p ≡ get_or items i d0) (rows : List WatchedOf) (h : ChangesSo kernel items now old i rows) where
  pub passes : length rows ≤ p → ChangesSo kernel items now old (i + 1) rows
  passes past =
      record {
        all = h.all;
        up_to = h.up_to;
        changed = λ r k n moved watched. none_there r k n items kernel moved items i p d0 below item rows (h.changed r k n moved watched) past;
      }

  pub changes : (before then : WatchedOf) (measure : Measure) → p < length rows → before ≡ get_or rows p before
      → now ≡ kernel.parts.shared.happen.time → then.since ≡ now
      → ((s : State Script) → StandsFor kernel.parts s → measure ≡ measure_at kernel.parts.setup.resources p s.facilities)
      → ((time : ℕ → ℤ) (m : ℕ → Measure) (k n : ℕ) → IsWatched time m k before → IsSteady time m k n → 1 ≤ n → time (k + n) ≡ now → m (k + n) ≡ measure
      → IsWatched time m (k + n) then)
      → ((time : ℕ → ℤ) (m : ℕ → Measure) (k : ℕ) → IsWatched time m k before → time k ≡ now → m k ≡ measure → IsWatched time m k then)
      → ChangesSo kernel items now old (i + 1) (set rows p then)
  changes before then measure within was now_is since measured first again =
      record {
        all = length-set rows p then ∙ h.all;
        up_to = All-set (λ w. w.since ≤ℤ now) rows p then (not_later then.since now since) h.up_to;
        changed = λ r k n moved watched.
            let resources : r.plan.setup.resources ≡ kernel.parts.setup.resources = ap (λ x. x.resources) moved.setup in
            let time_is : time_after r (k + n) ≡ now = sym (now_is ∙ moved.stands.facilities.calendar.time) in
            let measure_is : measure_after r p (k + n) ≡ measure =
            sym (measured (state_after r (k + n)) moved.stands ∙ ap (λ rs. measure_at rs p (state_after r (k + n)).facilities) (sym resources)) in
            let inside : p < length r.plan.setup.resources = subst (λ rs. p < length rs) (sym resources) (rw h.all at within) in
            one_changed r k n items kernel moved items i p d0 below item rows (h.changed r k n moved watched) then before within (sym was)
            (λ w. first (time_after r) (measure_after r p) k n w (steady r k n items kernel moved p inside) moved.some time_is measure_is)
            (λ w. again (time_after r) (measure_after r p) (k + n) w time_is measure_is);
      }
    where
      not_later : (a b : ℤ) → a ≡ b → a ≤ℤ b
      not_later a b is = omega (arith, ints, is)
