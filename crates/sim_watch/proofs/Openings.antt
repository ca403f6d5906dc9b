-- What is watched as a walk begins.
use Rattle.std.proofs.Common.{◌≡◌, ◌<◌, ◌≤ℤ◌, ℕ, zero, suc, ◌+◌, ◌⊎◌, inl, inr, ℤ, pos, List, [], ◌∷◌, ◌++◌, length, get_or, length-append, refl, sym, ap, ◌∙◌, subst, arith}
use Rattle.std.specs.Prelude.{IsTrue}
use Rattle.std.proofs.Math.Seq.{get_or-append_seam}
use Rattle.std.proofs.lemmas.Bool.{cases_eq}
use Rattle.std.proofs.lemmas.Int.{ints}
use Rattle.std.proofs.lemmas.List.{get_or_append_left}
use Rattle.std.proofs.lemmas.List.Elements.{All-append}
use Rattle.sim_types.specs.Limits.{most_level}
use Rattle.sim_types.specs.Scenarios.{ScenarioOf}
use Rattle.sim_types.specs.Setups.{HavePorts}
use Rattle.sim_types.specs.declared.line.End.{End}
use Rattle.sim_types.specs.declared.line.Measure.{Measure}
use Rattle.sim_types.specs.declared.setup.Arrival.{Arrival}
use Rattle.sim_machine.specs.State.{State}
use Rattle.sim_machine.specs.Measures.{measure_at}
use Rattle.sim_machine.specs.Effect.{calendar}
use Rattle.sim_machine.specs.Runs.{end_word, opening_course}
use Rattle.sim_machine.specs.Units.{Course}
use Rattle.sim_machine_law.specs.Courses.{Run, course_after, state_after}
use Rattle.sim_machine_law.proofs.Stocks.HeldNumbers.{held_from_0, held_to_most}
use Rattle.sim_steps_model.specs.PartsOf.{plan_of}
use Rattle.sim_steps_model.specs.StandsFor.{StandsFor}
use Rattle.sim_kernel.specs.KernelOf.{KernelOf}
use Rattle.sim_kernel.specs.Walks.{WalkOf, BeginsOn, StandsAt}
use Rattle.sim_language.specs.WellFormed.{is_well_formed}
use Rattle.sim_script_model.specs.Scenarios.{summary}
use Rattle.sim_script_model.specs.Scripts.{Script}
use Rattle.sim_script_law.specs.ScriptMembers.{script_body}
use Rattle.sim_lawful.specs.LawfulRuns.{IsRunOf}
use Rattle.sim_script_law.specs.ScenarioRuns.{run_of}
use Rattle.sim_watch.specs.Watched.{WatchedOf, IsWatched}
use Rattle.sim_watch.specs.Following.{AreUpTo, AreWatched, CanBeMeasured, Follows, IsAtLast, IsAtOpening, run_from, time_after, measure_after}
use Rattle.sim_watch.proofs.Beginning.{is_run, opens_at_0}

-- ---- what is measured is in its range

abbrev pub IsMeasuredAt : KernelOf Script ScenarioOf → ℕ → Measure → Type 0
IsMeasuredAt kernel res measure =
    (s : State Script) → StandsFor kernel.parts s → measure ≡ measure_at kernel.parts.setup.resources res s.facilities

module _ (kernel : KernelOf Script ScenarioOf) (can : CanBeMeasured kernel) (res : ℕ) (within : res < length kernel.parts.setup.resources) (measure : Measure)
    (is : IsMeasuredAt kernel res measure) where
  held_is : measure.held ≡ (measure_at kernel.parts.setup.resources res can.state.facilities).held
  held_is = ap (λ (x : Measure). x.held) (is can.state can.stands)

  pub measured_from_0 : pos 0 ≤ℤ measure.held
  measured_from_0 =
      subst (λ n. pos 0 ≤ℤ n) (sym held_is) (held_from_0 kernel.parts.setup.resources res can.state.facilities can.lawful.capacities within)

  pub measured_to_most : measure.held ≤ℤ most_level
  measured_to_most =
      subst (λ n. n ≤ℤ most_level) (sym held_is)
      (held_to_most kernel.parts.setup.resources res can.state.facilities can.lawful.capacities within can.fits)

-- ---- resources that are watched from the opening on

-- the first n, and none of them tells of a later time
pub record AreBegun (r : Run Script) (n : ℕ) (rows : List WatchedOf) : Type 0 where
  pub all : length rows ≡ n
  pub each : (res : ℕ) (d : WatchedOf) → res < length rows → IsWatched (time_after r) (measure_after r res) 0 (get_or rows res d)
  pub up_to : AreUpTo (pos 0) rows

pub none_begun : (r : Run Script) → AreBegun r 0 []
none_begun r =
    record {
      all = refl;
      each = λ res d within. absurd (none res within);
      up_to = λ i d within. absurd (none i within);
    }
  where
    none : (i : ℕ) → i < 0 → ⊥
    none i h = omega (arith, h)

pub one_begun : (r : Run Script) (n : ℕ) (rows : List WatchedOf) → AreBegun r n rows → (w : WatchedOf) → w.since ≡ pos 0
    → IsWatched (time_after r) (measure_after r n) 0 w → AreBegun r (n + 1) (rows ++ w ∷ [])
one_begun r n rows h w since is =
    record {
      all = length-append rows (w ∷ []) ∙ ap (λ k. k + 1) h.all;
      each = λ res d within. by res d (rw length-append at within) (cases_eq res (length rows));
      up_to = All-append (λ x. x.since ≤ℤ pos 0) rows (w ∷ []) h.up_to (λ i d within. last i d within);
    }
  where
    by : (res : ℕ) (d : WatchedOf) → res < length rows + 1 → (res ≡ length rows) ⊎ (res ≡ length rows → ⊥)
        → IsWatched (time_after r) (measure_after r res) 0 (get_or (rows ++ w ∷ []) res d)
    by res d within (inl same) =
        subst (λ (k : ℕ). IsWatched (time_after r) (measure_after r k) 0 (get_or (rows ++ w ∷ []) k d)) (sym same)
        (subst (IsWatched (time_after r) (measure_after r (length rows)) 0) (sym (get_or-append_seam rows w [] d))
        (subst (λ (k : ℕ). IsWatched (time_after r) (measure_after r k) 0 w) (sym h.all) is))
    by res d within (inr differs) =
        let below : res < length rows = omega (arith, within, differs) in
        subst (IsWatched (time_after r) (measure_after r res) 0) (sym (get_or_append_left rows (w ∷ []) d res below)) (h.each res d below)

    not_later : (a : ℤ) → a ≡ pos 0 → a ≤ℤ pos 0
    not_later a same = omega (arith, ints, same)

    last : (i : ℕ) (d : WatchedOf) → i < 1 → (get_or (w ∷ []) i d).since ≤ℤ pos 0
    last zero d within = not_later w.since since
    last (suc i) d within = absurd (omega (arith, within))

-- ---- a walk at its opening

module _ (s : ScenarioOf) (w : WalkOf Script ScenarioOf) (h : IsAtOpening s w) where
  abbrev r : Run Script
  r = run_from s w

  plan_is : r.plan ≡ plan_of script_body w.kernel.parts
  plan_is = rw (h.code, h.setup) refl

  stands_at_0 : StandsAt script_body w (course_after r 0)
  stands_at_0 = subst (λ g. StandsAt script_body w (opening_course g w.left)) (sym plan_is) h.begins

  opening_can : CanBeMeasured w.kernel
  opening_can =
      record {
        state = state_after r 0;
        stands = stands_at_0.stands;
        lawful = stands_at_0.lawful;
        fits = rw h.setup h.run.plan.fits.capacities;
      }

  pub opened_from_0 : (res : ℕ) → res < length s.setup.resources → (measure : Measure) → IsMeasuredAt w.kernel res measure → pos 0 ≤ℤ measure.held
  opened_from_0 res within measure is = measured_from_0 w.kernel opening_can res (rw h.setup within) measure is

  pub opened_to_most : (res : ℕ) → res < length s.setup.resources → (measure : Measure) → IsMeasuredAt w.kernel res measure → measure.held ≤ℤ most_level
  opened_to_most res within measure is = measured_to_most w.kernel opening_can res (rw h.setup within) measure is

  -- the next resource is watched
  pub begun_next : (res : ℕ) (rows : List WatchedOf) → AreBegun r res rows → (x : WatchedOf) (measure : Measure) → IsMeasuredAt w.kernel res measure
      → x.since ≡ pos 0 → ((time : ℕ → ℤ) (m : ℕ → Measure) → time 0 ≡ pos 0 → m 0 ≡ measure → IsWatched time m 0 x)
      → AreBegun r (res + 1) (rows ++ x ∷ [])
  begun_next res rows begun x measure is since watched =
      let there : measure_after r res 0 ≡ measure =
      sym (is (state_after r 0) stands_at_0.stands ∙ ap (λ g. measure_at g.resources res (state_after r 0).facilities) h.setup) in
      one_begun r res rows begun x since (watched (time_after r) (measure_after r res) (opens_at_0 r) there)

  -- all are
  pub all_begun : (n : ℕ) (rows : List WatchedOf) → AreBegun r n rows → n ≡ length s.setup.resources → Follows r w rows
  all_begun n rows begun all =
      record {
        walk = record {
          plan = plan_is;
          turn = rw h.code refl;
          at = subst (λ k. StandsAt script_body w (course_after r k)) (sym h.units) stands_at_0;
          under_way = λ k below. absurd (none k below);
        };
        watched = subst (λ k. AreWatched r k rows) (sym h.units) (record { all = begun.all ∙ all; each = begun.each });
        up_to = subst (λ k. AreUpTo (time_after r k) rows) (sym h.units) (rw (opens_at_0 r) begun.up_to);
      }
    where
      none : (k : ℕ) → k < w.kernel.units → ⊥
      none k below = omega (arith, below, h.units)

-- ---- the walk that is opened for a run of a scenario

module _ (s : ScenarioOf) (seed : ℕ) (journal : List Arrival) (w : WalkOf Script ScenarioOf) (code : w.kernel.parts.code ≡ s)
    (setup : w.kernel.parts.setup ≡ s.setup) (same : w.kernel.parts.seed ≡ seed) (begins : BeginsOn script_body journal w) where
  pub left_is : w.left ≡ journal
  left_is = sym begins.left

  pub run_is : run_from s w ≡ run_of s seed journal
  run_is = rw (same, left_is) refl

  pub is_at_opening : w.kernel.units ≡ 0 → IsTrue (is_well_formed s) → HavePorts s.setup journal → IsAtOpening s w
  is_at_opening units well_formed ports =
      record {
        code = code;
        setup = setup;
        units = units;
        begins = subst (λ left. BeginsOn script_body left w) (sym left_is) begins;
        run = subst (IsRunOf script_body s) (sym run_is) (is_run s seed journal well_formed ports);
      }

-- ---- what the walk tells in the end

module _ (s : ScenarioOf) (seed : ℕ) (journal : List Arrival) (limit : ℕ) (r : Run Script) (run : r ≡ run_of s seed journal)
    (w : WalkOf Script ScenarioOf) (h : IsAtLast r limit w) where
  pub end_told : (told : End) → ((m : Course Script) → StandsAt script_body w m → told ≡ end_word (plan_of script_body w.kernel.parts) m)
      → told ≡ (summary s seed journal limit).end
  end_told told is =
      is (course_after r limit) h.at ∙ ap (λ g. end_word g (course_after r limit)) (sym h.plan)
      ∙ ap (λ (q : Run Script). end_word q.plan (course_after q limit)) run

  pub time_told : (told : ℤ) → ((m : Course Script) → StandsAt script_body w m → told ≡ (calendar m.state).time)
      → told ≡ (summary s seed journal limit).time
  time_told told is = is (course_after r limit) h.at ∙ ap (λ (q : Run Script). time_after q limit) run

  pub processed_told : (told : ℕ) → ((m : Course Script) → StandsAt script_body w m → told ≡ m.state.processed)
      → told ≡ (summary s seed journal limit).processed
  processed_told told is = is (course_after r limit) h.at ∙ ap (λ (q : Run Script). (state_after q limit).processed) run
