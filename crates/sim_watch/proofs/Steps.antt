-- As a walk goes on, its units are those of the run, and all resources are watched up to where it stands.
use Rattle.std.proofs.Common.{◌≡◌, ◌<◌, ◌≤◌, ◌≤ℤ◌, ℕ, ◌+◌, ◌-◌, ◌⊎◌, inl, inr, ℤ, List, length, map, None, refl, sym, ap, ◌∙◌, subst, arith}
use Rattle.std.specs.List.{AllPass, range_with_len}
use Rattle.std.proofs.lemmas.Bool.{cases_lt}
use Rattle.std.proofs.lemmas.Int.{ints}
use Rattle.std.proofs.lemmas.List.Elements.{All-weaker}
use Rattle.sim_types.specs.Limits.{last_time}
use Rattle.sim_types.specs.Scenarios.{ScenarioOf}
use Rattle.sim_types.specs.Setups.{resource_fits}
use Rattle.sim_types.specs.declared.line.WatchRow.{WatchRow}
use Rattle.sim_machine.specs.Runs.{HasEnded, end_of}
use Rattle.sim_machine.specs.Measures.{row_of}
use Rattle.sim_machine_law.specs.Courses.{Run, course_after, state_after}
use Rattle.sim_machine_law.proofs.RunLaws.MadeUnits.{made_where, stays_where}
use Rattle.sim_steps_model.specs.PartsOf.{IsOpenedAs}
use Rattle.sim_steps_model.specs.Touching.{touched_places}
use Rattle.sim_steps_model.specs.declared.mode.Units.{Units}
use Rattle.sim_kernel.specs.Walks.{WalkOf, IsOver, StandsAt, Walks}
use Rattle.sim_script_model.specs.Scenarios.{watch_rows}
use Rattle.sim_script_model.specs.Scripts.{Script}
use Rattle.sim_script_law.specs.ScriptMembers.{script_body}
use Rattle.sim_lawful.specs.LawfulRuns.{IsRunOf}
use Rattle.sim_watch.specs.Watched.{WatchedOf, row_at}
use Rattle.sim_watch.specs.Following.{AreUpTo, AreWatched, CanBeMeasured, Follows, HasMoved, IsAtLast, IsAtOpening, run_from, time_after, measure_after}
use Rattle.sim_watch.proofs.Beginning.{lawful_after, never_falls}
use Rattle.sim_watch.proofs.Moving.{LedOn, led_on}
use Rattle.sim_watch.proofs.Telling.{rows_are}

up_to_later : (a b c : ℤ) → a ≤ℤ b → b ≤ℤ c → a ≤ℤ c
up_to_later a b c h k = omega (arith, ints, h, k)

-- ---- so many units more

module _ (s : ScenarioOf) (r : Run Script) (run : IsRunOf script_body s r) (old new : WalkOf Script ScenarioOf) (rows : List WatchedOf)
    (h : Follows r old rows) (units : Units) (walks : Walks script_body units old new) (opened : IsOpenedAs old.kernel.parts new.kernel.parts) where
  abbrev k : ℕ
  k = old.kernel.units

  abbrev n : ℕ
  n = units.made

  abbrev places : List ℕ
  places = touched_places units.touched new.kernel.listed

  led : LedOn r old.kernel.parts h.walk.plan h.walk.turn k old new places n
  led = led_on r old.kernel.parts h.walk.plan h.walk.turn k old new units n refl (walks.each (course_after r k) h.walk.at)

  pub some_made : 1 ≤ units.made
  some_made = led.some

  setup_is : r.plan.setup ≡ new.kernel.parts.setup
  setup_is = ap (λ g. g.setup) h.walk.plan ∙ sym opened.setup

  pub has_moved : HasMoved r k n places new.kernel
  has_moved =
      record {
        setup = setup_is;
        stands = led.stands.stands;
        some = led.some;
        same_time = led.time;
        same_measures = led.measures;
        others = led.others;
      }

  pub can_be_measured : CanBeMeasured new.kernel
  can_be_measured =
      record {
        state = state_after r (k + n);
        stands = led.stands.stands;
        lawful = led.stands.lawful;
        fits = subst (λ x. AllPass resource_fits x.resources) setup_is run.plan.fits.capacities;
      }

  pub as_many : length rows ≡ length new.kernel.parts.setup.resources
  as_many = h.watched.all ∙ ap (λ x. length x.resources) setup_is

  pub up_to_then : AreUpTo new.kernel.parts.shared.happen.time rows
  up_to_then =
      rw led.stands.stands.facilities.calendar.time
      (All-weaker (λ w. w.since ≤ℤ time_after r k) (λ w. w.since ≤ℤ time_after r (k + n))
      (λ w before. up_to_later w.since (time_after r k) (time_after r (k + n)) before (never_falls s r run k n led.some led.time)) rows h.up_to)

  module _ (count : new.kernel.units ≡ old.kernel.units + units.made) (then : List WatchedOf) where
    under_way : (i : ℕ) → i < k + n → end_of r.plan (course_after r i) ≡ None
    under_way i below = by (cases_lt i k)
      where
        by : (i < k) ⊎ (k ≤ i) → end_of r.plan (course_after r i) ≡ None
        by (inl early) = h.walk.under_way i early
        by (inr late) =
            let there : k + (i - k) ≡ i = omega (arith, late) in
            subst (λ (j : ℕ). end_of r.plan (course_after r j) ≡ None) there (led.goes_on (i - k) (omega (arith, late, below)))

    pub follows_then : ((q : Run Script) (j m : ℕ) → HasMoved q j m places new.kernel → AreWatched q j rows → AreWatched q (j + m) then)
        → AreUpTo new.kernel.parts.shared.happen.time then → Follows r new then
    follows_then watched up_to =
        record {
          walk = record {
            plan = rw (opened.code, opened.setup, opened.seed) h.walk.plan;
            turn = rw opened.code h.walk.turn;
            at = subst (λ j. StandsAt script_body new (course_after r j)) (sym count) led.stands;
            under_way = λ i below. under_way i (rw count at below);
          };
          watched = subst (λ j. AreWatched r j then) (sym count) (watched r k n has_moved h.watched);
          up_to = subst (λ j. AreUpTo (time_after r j) then) (sym count) (rw led.stands.stands.facilities.calendar.time at up_to);
        }

-- ---- all units are made

module _ (s : ScenarioOf) (w0 w : WalkOf Script ScenarioOf) (opening : IsAtOpening s w0) (rows : List WatchedOf)
    (h : Follows (run_from s w0) w rows) (over : IsOver script_body w) (limit : w.limit ≡ w0.limit) (within : w.kernel.units ≤ w.limit) where
  abbrev r : Run Script
  r = run_from s w0

  abbrev made : ℕ
  made = w.kernel.units

  whole : (made ≡ w0.limit) ⊎ HasEnded r.plan (course_after r made)
  whole = by over
    where
      by : IsOver script_body w → (made ≡ w0.limit) ⊎ HasEnded r.plan (course_after r made)
      by (inl all) = inl (all ∙ limit)
      by (inr ended) = inr (subst (λ g. HasEnded g (course_after r made)) (sym h.walk.plan) (ended (course_after r made) h.walk.at))

  fits : made ≤ w0.limit
  fits = omega (arith, within, limit)

  pub time_there : w.kernel.parts.shared.happen.time ≡ time_after r made
  time_there = h.walk.at.stands.facilities.calendar.time

  pub in_time : w.kernel.parts.shared.happen.time ≤ℤ last_time
  in_time = rw time_there (lawful_after s r opening.run made).times.in_limit

  pub up_to_there : AreUpTo w.kernel.parts.shared.happen.time rows
  up_to_there = rw time_there h.up_to

  pub all_told : (told : List WatchRow) → told ≡ map (row_at w.kernel.parts.shared.happen.time) rows → (d : WatchedOf)
      → told ≡ watch_rows s w0.kernel.parts.seed w0.left w0.limit
  all_told told is d =
      is ∙ rows_are r made rows w.kernel.parts.shared.happen.time h.watched (sym time_there) d
      ∙ ap (λ (j : ℕ). map (λ res. row_of (time_after r) (measure_after r res) j) (range_with_len 0 (length s.setup.resources)))
      (sym (made_where r.plan r.turn r.journal w0.limit made fits h.walk.under_way whole))

  pub at_last : IsAtLast r w0.limit w
  at_last =
      record {
        plan = h.walk.plan;
        at = subst (StandsAt script_body w) (sym (stays_where r.plan r.turn r.journal w0.limit made fits h.walk.under_way whole)) h.walk.at;
      }
