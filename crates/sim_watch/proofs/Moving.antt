-- The units of a walk over scripts are those of the run.
use Rattle.std.proofs.Common.{◌≡◌, ◌<◌, ◌≤◌, ℕ, zero, suc, ◌+◌, ◌⊎◌, inl, inr, [], length, false, None, refl, sym, ap, ◌∙◌, subst, arith, add-zero, List}
use Rattle.std.proofs.lemmas.Bool.{cases_eq}
use Rattle.sim_types.specs.Scenarios.{ScenarioOf}
use Rattle.sim_types.specs.declared.line.Measure.{Measure}
use Rattle.sim_machine.specs.Effect.{calendar}
use Rattle.sim_machine.specs.Measures.{measure_at}
use Rattle.sim_machine.specs.Runs.{end_of}
use Rattle.sim_machine.specs.Units.{Course}
use Rattle.sim_machine_law.specs.Courses.{Run, course_after}
use Rattle.sim_shared_model.specs.Measuring.{is_one_of}
use Rattle.sim_procs.specs.QuietPolls.{InARow, QuietButLast}
use Rattle.sim_steps_model.specs.PartsOf.{PartsOf, plan_of}
use Rattle.sim_steps_model.specs.Touching.{touched_places}
use Rattle.sim_steps_model.specs.declared.mode.Units.{Units}
use Rattle.sim_kernel.specs.Stepping.{AreMeasuredAlike}
use Rattle.sim_kernel.specs.Walks.{WalkOf, StandsAt, LeadsOn, LeadsQuietly, LeadsAtLast}
use Rattle.sim_script_model.specs.Polls.{script_turn}
use Rattle.sim_script_model.specs.Scripts.{Script}
use Rattle.sim_script_law.specs.ScriptMembers.{script_body}
use Rattle.sim_script_law.proofs.Laws.OnlySteps.{only_script_unit}
use Rattle.sim_watch.specs.Following.{time_after, measure_after}

module _ (r : Run Script) (parts : PartsOf Script ScenarioOf) (plan : r.plan ≡ plan_of script_body parts)
    (turn : r.turn ≡ script_turn parts.code.code) (k : ℕ) where
  next_number : (n : ℕ) → suc (k + n) ≡ k + suc n
  next_number n = omega arith

  -- where a unit leads on from the run after so many units, it leads to the run after one more
  leads_to_next : (n : ℕ) (m later : Course Script) → m ≡ course_after r (k + n) → LeadsOn script_body parts m later
      → later ≡ course_after r (k + suc n)
  leads_to_next n m later is leads =
      only_script_unit (plan_of script_body parts) parts.code m later leads.unit
      ∙ (rw (← plan, ← turn, is) refl ∙ ap (course_after r) (next_number n))

  goes_on_there : (n : ℕ) (m later : Course Script) → m ≡ course_after r (k + n) → LeadsOn script_body parts m later
      → end_of r.plan (course_after r (k + n)) ≡ None
  goes_on_there n m later is leads =
      subst (λ g. end_of g (course_after r (k + n)) ≡ None) (sym plan) (subst (λ c. end_of (plan_of script_body parts) c ≡ None) is leads.goes_on)

  -- so many units led quietly to this course
  record LedQuietly (n : ℕ) (m : Course Script) : Type 0 where
    there : m ≡ course_after r (k + n)
    time : (i : ℕ) → i ≤ n → time_after r (k + i) ≡ time_after r k
    measures : (res : ℕ) → res < length r.plan.setup.resources → (i : ℕ) → i ≤ n → measure_after r res (k + i) ≡ measure_after r res k
    goes_on : (i : ℕ) → i < n → end_of r.plan (course_after r (k + i)) ≡ None

  quiet_next : (n : ℕ) (m later : Course Script) → LedQuietly n m → LeadsQuietly script_body parts m later → LedQuietly (suc n) later
  quiet_next n m later before then =
      record {
        there = now;
        time = λ i below. by_last (time_after r) i below (cases_eq i (suc n)) (before.time i) last_time;
        measures = λ res within i below. by_last (measure_after r res) i below (cases_eq i (suc n)) (before.measures res within i) (last_measure res within);
        goes_on = λ i below. goes_on_by i below (cases_eq i n);
      }
    where
      now : later ≡ course_after r (k + suc n)
      now = leads_to_next n m later before.there then.leads

      last_time : time_after r (k + suc n) ≡ time_after r k
      last_time =
          ap (λ (c : Course Script). (calendar c.state).time) (sym now)
          ∙ (then.time ∙ (ap (λ (c : Course Script). (calendar c.state).time) before.there ∙ before.time n (omega arith)))

      last_measure : (res : ℕ) → res < length r.plan.setup.resources → measure_after r res (k + suc n) ≡ measure_after r res k
      last_measure res within =
          let at : Course Script → Measure = λ (c : Course Script). measure_at r.plan.setup.resources res c.state.facilities in
          let alike : AreMeasuredAlike r.plan.setup.resources [] m.state later.state = rw plan then.measures in
          ap at (sym now) ∙ (alike.same res within refl ∙ (ap at before.there ∙ before.measures res within n (omega arith)))

      by_last : {X : Type 0} (f : ℕ → X) (i : ℕ) → i ≤ suc n → (i ≡ suc n) ⊎ (i ≡ suc n → ⊥) → (i ≤ n → f (k + i) ≡ f k)
          → f (k + suc n) ≡ f k → f (k + i) ≡ f k
      by_last f i below (inl is) early last = subst (λ (j : ℕ). f (k + j) ≡ f k) (sym is) last
      by_last f i below (inr differs) early last = early (omega (arith, below, differs))

      goes_on_by : (i : ℕ) → i < suc n → (i ≡ n) ⊎ (i ≡ n → ⊥) → end_of r.plan (course_after r (k + i)) ≡ None
      goes_on_by i below (inl is) =
          subst (λ (j : ℕ). end_of r.plan (course_after r (k + j)) ≡ None) (sym is) (goes_on_there n m later before.there then.leads)
      goes_on_by i below (inr differs) = before.goes_on i (omega (arith, below, differs))

  led_quietly : (n : ℕ) (m : Course Script) → InARow (LeadsQuietly script_body parts) n (course_after r k) m → LedQuietly n m
  led_quietly zero m row =
      record {
        there = row ∙ ap (course_after r) (sym (add-zero k));
        time = λ i below. ap (time_after r) (none_more i below);
        measures = λ res there i below. ap (measure_after r res) (none_more i below);
        goes_on = λ i below. absurd (none_below i below);
      }
    where
      none_more : (i : ℕ) → i ≤ zero → k + i ≡ k
      none_more i h = omega (arith, h)

      none_below : (i : ℕ) → i < zero → ⊥
      none_below i h = omega (arith, h)
  led_quietly (suc n) m row = quiet_next n row.between m (led_quietly n row.between row.before) row.after

  -- so many units led on from the run after so many, at least one: before the last of them nothing changed
  pub record LedOn (old new : WalkOf Script ScenarioOf) (places : List ℕ) (n : ℕ) : Type 0 where
    pub some : 1 ≤ n
    pub time : (i : ℕ) → i < n → time_after r (k + i) ≡ time_after r k
    pub measures : (res : ℕ) → res < length r.plan.setup.resources → (i : ℕ) → i < n → measure_after r res (k + i) ≡ measure_after r res k
    pub goes_on : (i : ℕ) → i < n → end_of r.plan (course_after r (k + i)) ≡ None
    pub others : (res : ℕ) → res < length r.plan.setup.resources → is_one_of res places ≡ false
        → measure_after r res (k + n) ≡ measure_after r res k
    pub stands : StandsAt script_body new (course_after r (k + n))

  last_on : (old new : WalkOf Script ScenarioOf) (units : Units) (n : ℕ) (m : Course Script) → old.kernel.parts ≡ parts → LedQuietly n m
      → LeadsAtLast script_body old new units m → LedOn old new (touched_places units.touched new.kernel.listed) (suc n)
  last_on old new units n m same before then =
      record {
        some = omega arith;
        time = λ i below. before.time i (omega (arith, below));
        measures = λ res within i below. before.measures res within i (omega (arith, below));
        goes_on = λ i below. goes_on_by i below (cases_eq i n);
        others = others;
        stands = subst (StandsAt script_body new) now then.stands;
      }
    where
      leads : LeadsOn script_body parts m then.later
      leads = subst (λ p. LeadsOn script_body p m then.later) same then.leads

      now : then.later ≡ course_after r (k + suc n)
      now = leads_to_next n m then.later before.there leads

      others : (res : ℕ) → res < length r.plan.setup.resources → is_one_of res (touched_places units.touched new.kernel.listed) ≡ false
          → measure_after r res (k + suc n) ≡ measure_after r res k
      others res within other =
          let at : Course Script → Measure = λ (c : Course Script). measure_at r.plan.setup.resources res c.state.facilities in
          let alike : AreMeasuredAlike r.plan.setup.resources (touched_places units.touched new.kernel.listed) m.state then.later.state =
          rw (plan, ← same) then.measures in
          ap at (sym now) ∙ (alike.same res within other ∙ (ap at before.there ∙ before.measures res within n (omega arith)))

      goes_on_by : (i : ℕ) → i < suc n → (i ≡ n) ⊎ (i ≡ n → ⊥) → end_of r.plan (course_after r (k + i)) ≡ None
      goes_on_by i below (inl is) =
          subst (λ (j : ℕ). end_of r.plan (course_after r (k + j)) ≡ None) (sym is) (goes_on_there n m then.later before.there leads)
      goes_on_by i below (inr differs) = before.goes_on i (omega (arith, below, differs))

  pub led_on : (old new : WalkOf Script ScenarioOf) (units : Units) (n : ℕ) → old.kernel.parts ≡ parts
      → QuietButLast (LeadsQuietly script_body parts) (LeadsAtLast script_body old new units) n (course_after r k)
      → LedOn old new (touched_places units.touched new.kernel.listed) n
  led_on old new units zero same row = absurd row
  led_on old new units (suc n) same row = last_on old new units n row.between same (led_quietly n row.between row.before) row.after
