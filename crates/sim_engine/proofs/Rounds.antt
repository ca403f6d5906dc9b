-- A turn of a session, and an arrival at it, lead on in its run.
use Rattle.std.proofs.Common.{◌≡◌, ◌<◌, ◌⊎◌, inl, inr, ℕ, ◌+◌, ◌-◌, List, [], ◌∷◌, length, drop, Bool, true, false, Some, None, refl, sym, ap, ◌∙◌, subst, arith, add-one}
use Rattle.std.specs.Prelude.{nat_le, nat_lt, ◌||◌, if◌then◌else◌}
use Rattle.std.proofs.lemmas.Bool.{false≢true, cases_eq}
use Rattle.std.proofs.lemmas.Bool.Decides.{nat_tests}
use Rattle.sim_types.specs.Scenarios.{ScenarioOf}
use Rattle.sim_types.specs.declared.setup.Arrival.{Arrival}
use Rattle.sim_machine.specs.State.{State}
use Rattle.sim_machine.specs.Effect.{calendar}
use Rattle.sim_machine.specs.Units.{Course, arrive, due_arrival}
use Rattle.sim_machine.specs.Runs.{end_of, opening}
use Rattle.sim_machine_law.specs.Courses.{Run, course_after}
use Rattle.sim_steps_model.specs.PartsOf.{PartsOf, plan_of}
use Rattle.sim_script_model.specs.Scripts.{Script}
use Rattle.sim_script_law.specs.ScriptMembers.{script_body}
use Rattle.sim_script_law.specs.ScenarioRuns.{run_of}
use Rattle.sim_engine.specs.Sessions.{SessionOf, IsAt, GoesOn, turn_of, takes_arrivals, steps, steps_in, IsBusyBetween, is_processing}
use Rattle.sim_engine.specs.Rounds.{next_of, StandsInRun}
use Rattle.sim_engine.specs.declared.runs.Next.TheVariants as next
use Rattle.sim_engine.specs.declared.session.Turn.{Turn}
use Rattle.sim_engine.specs.declared.session.Turn.TheVariants as turn
use Rattle.sim_kernel.proofs.RestingMachines.{StandsIdle, stands_idle, stands_empty, due_where, waits_on, goes_on_idle}
use Rattle.sim_engine.proofs.RoundCases.{takes_where, idle_where, empty_where}
use Rattle.sim_engine.proofs.RunCourses.{units_are_steps, under_way_for}

-- ---- what comes next

pub turn_is_idle : (t : Turn) (processed : ℕ) (left : List Arrival) → next_of t processed left ≡ next.Turn → t ≡ turn.Idle
turn_is_idle turn.Idle processed left h = refl
turn_is_idle turn.Empty processed [] h = absurd (cc)
turn_is_idle turn.Empty processed (a ∷ left) h = absurd (cc)
turn_is_idle (turn.Over why) processed left h = absurd (cc)

late_by : (b : Bool) (a : Arrival) → (if b then next.Arrival a else next.Turn) ≡ next.Turn → b ≡ false
late_by true a h = absurd (cc)
late_by false a h = refl

none_due : (s : State Script) (processed : ℕ) (left : List Arrival) → StandsIdle s false → processed ≡ s.processed
    → next_of turn.Idle processed left ≡ next.Turn → due_arrival s left ≡ None
none_due s processed [] idle same h = refl
none_due s processed (a ∷ left) idle same h =
    let late : nat_le a.after s.processed ≡ false = ap (nat_le a.after) (sym same) ∙ late_by (nat_le a.after processed) a h in
    due_where s false a left false idle (rw late refl)

-- an entry comes next: it is the first that is left, and nothing else is waited for
pub record ComesNext (t : Turn) (processed : ℕ) (left : List Arrival) (a : Arrival) : Type 0 where
  pub takes : takes_arrivals t ≡ true
  pub first : left ≡ a ∷ drop 1 left
  pub awaited : ((t ≡ turn.Idle) × (nat_le a.after processed ≡ true)) ⊎ (t ≡ turn.Empty)

early_by : (b : Bool) (a x : Arrival) → (if b then next.Arrival a else next.Turn) ≡ next.Arrival x → (b ≡ true) × (a ≡ x)
early_by true a x h = (refl, cc)
early_by false a x h = absurd (cc)

pub comes_next : (t : Turn) (processed : ℕ) (left : List Arrival) (a : Arrival) → next_of t processed left ≡ next.Arrival a → ComesNext t processed left a
comes_next turn.Idle processed [] a h = absurd (cc)
comes_next turn.Idle processed (x ∷ left) a h =
    let early = early_by (nat_le x.after processed) x a h in
    record {
      takes = refl;
      first = ap (λ y. y ∷ left) early.1;
      awaited = inl (refl, ap (λ y. nat_le y.after processed) (sym early.1) ∙ early.0);
    }
comes_next turn.Empty processed [] a h = absurd (cc)
comes_next turn.Empty processed (x ∷ left) a h =
    let same : x ≡ a = cc in
    record { takes = refl; first = ap (λ y. y ∷ left) same; awaited = inr refl }
comes_next (turn.Over why) processed left a h = absurd (cc)

pub turn_is_next : (x : SessionOf) (left : List Arrival) → next_of (turn_of x) x.parts.processed left ≡ next.Turn → x.refused ≡ false
turn_is_next x left h =
    let takes : takes_arrivals (turn_of x) ≡ true = ap takes_arrivals (turn_is_idle (turn_of x) x.parts.processed left h) in
    (takes_where x takes).0

pub arrival_is_next : (x : SessionOf) (left : List Arrival) (a : Arrival) → next_of (turn_of x) x.parts.processed left ≡ next.Arrival a
    → (x.refused ≡ false) × (left ≡ a ∷ drop 1 left)
arrival_is_next x left a h = let comes = comes_next (turn_of x) x.parts.processed left a h in ((takes_where x comes.takes).0, comes.first)

-- ---- in a run

module _ (s : ScenarioOf) (seed : ℕ) (journal : List Arrival) where
  abbrev r : Run Script
  r = run_of s seed journal

  -- the kernel makes the steps of the run's machine
  plan_is : (parts : PartsOf Script ScenarioOf) → parts.code ≡ s → parts.setup ≡ s.setup → parts.seed ≡ seed → plan_of script_body parts ≡ r.plan
  plan_is parts code setup seeded = rw (code, setup, seeded) refl

  steps_are : (parts : PartsOf Script ScenarioOf) → parts.code ≡ s → parts.setup ≡ s.setup → parts.seed ≡ seed → (k : ℕ) (t : State Script)
      → steps_in parts k t ≡ steps r.plan r.turn k t
  steps_are parts code setup seeded k t = rw (code, setup, seeded) refl

  -- a session that was just opened stands at the beginning
  pub at_opening : (x : SessionOf) → x.parts.code ≡ s → x.parts.setup ≡ s.setup → x.parts.seed ≡ seed → x.units ≡ 0 → x.refused ≡ false
      → IsAt x (opening (plan_of script_body x.parts)) → StandsInRun s seed journal journal x
  at_opening x code setup seeded units none_refused at =
      record {
        code = code;
        setup = setup;
        seeded = seeded;
        at = subst (λ n. IsAt x (course_after r n).state) (sym units) (subst (λ g. IsAt x (opening g)) (plan_is x.parts code setup seeded) at);
        left_is = ap (λ n. (course_after r n).left) units;
        under_way = λ k below. absurd (omega (arith, units, below));
        refused = λ is. absurd (false≢true (sym none_refused ∙ is));
      }

  module _ (left : List Arrival) (old new : SessionOf) (h : StandsInRun s seed journal left old) (on : GoesOn old new) where
    abbrev m : Course Script
    m = course_after r old.units

    code_kept : new.parts.code ≡ s
    code_kept = on.opened.code ∙ h.code

    setup_kept : new.parts.setup ≡ s.setup
    setup_kept = on.opened.setup ∙ h.setup

    seed_kept : new.parts.seed ≡ seed
    seed_kept = on.opened.seed ∙ h.seeded

    -- ---- a turn

    idle_then : next_of (turn_of old) old.parts.processed left ≡ next.Turn → StandsIdle m.state false
    idle_then comes = stands_idle old.parts m.state h.at.stands (idle_where old (turn_is_idle (turn_of old) old.parts.processed left comes))

    none_due_then : next_of (turn_of old) old.parts.processed left ≡ next.Turn → due_arrival m.state m.left ≡ None
    none_due_then comes =
        let idle : next_of turn.Idle old.parts.processed left ≡ next.Turn = subst (λ t. next_of t old.parts.processed left ≡ next.Turn) (turn_is_idle (turn_of old) old.parts.processed left comes) comes in
        rw h.left_is (none_due m.state old.parts.processed left (idle_then comes) h.at.stands.processed idle)

    pub open_then : next_of (turn_of old) old.parts.processed left ≡ next.Turn → end_of r.plan m ≡ None
    open_then comes = let idle = idle_then comes in goes_on_idle r.plan m.state m.left (calendar m.state).agenda idle.control idle.agenda

    busy_then : (k : ℕ) → IsBusyBetween old.parts k m.state → (i : ℕ) → 0 < i → i < k → is_processing (steps r.plan r.turn i m.state).control ≡ true
    busy_then k busy i from below = subst (λ t. is_processing t.control ≡ true) (steps_are old.parts h.code h.setup h.seeded i m.state) (busy i from below)

    -- the units of the turn are those of the run
    pub turn_comes_to : (k : ℕ) → next_of (turn_of old) old.parts.processed left ≡ next.Turn → IsBusyBetween old.parts k m.state
        → course_after r (old.units + k) ≡ record { state = steps_in old.parts k m.state; left = m.left }
    turn_comes_to k comes busy =
        units_are_steps r old.units k (none_due_then comes) (busy_then k busy)
        ∙ ap (λ t. record { state = t; left = m.left }) (sym (steps_are old.parts h.code h.setup h.seeded k m.state))

    by_size : (k i : ℕ) → (i < old.units) ⊎ ((j : ℕ) × (i ≡ old.units + j) × (j < k)) → next_of (turn_of old) old.parts.processed left ≡ next.Turn
        → IsBusyBetween old.parts k m.state → end_of r.plan (course_after r i) ≡ None
    by_size k i (inl before) comes busy = h.under_way i before
    by_size k i (inr later) comes busy =
        subst (λ n. end_of r.plan (course_after r n) ≡ None) (sym later.1) (under_way_for r old.units k (none_due_then comes) (open_then comes) (busy_then k busy) later.0 later.2)

    pub after_turn : (k : ℕ) → new.units ≡ old.units + k → next_of (turn_of old) old.parts.processed left ≡ next.Turn → new.refused ≡ false
        → IsBusyBetween old.parts k m.state → IsAt new (steps_in old.parts k m.state) → StandsInRun s seed journal left new
    after_turn k units comes none_refused busy at =
        let is = ap (course_after r) units ∙ turn_comes_to k comes busy in
        record {
          code = code_kept;
          setup = setup_kept;
          seeded = seed_kept;
          at = subst (λ (t : State Script). IsAt new t) (sym (ap (λ c. c.state) is)) at;
          left_is = ap (λ c. c.left) is ∙ h.left_is;
          under_way = λ i below. by_size k i (sized i k units below) comes busy;
          refused = λ refused. absurd (false≢true (sym none_refused ∙ refused));
        }
      where
        sized : (i k : ℕ) → new.units ≡ old.units + k → i < new.units → (i < old.units) ⊎ ((j : ℕ) × (i ≡ old.units + j) × (j < k))
        sized i k units below = by (nat_lt i old.units) refl
          where
            by : (b : Bool) → nat_lt i old.units ≡ b → (i < old.units) ⊎ ((j : ℕ) × (i ≡ old.units + j) × (j < k))
            by true is = inl (grind (arith, nat_tests))
            by false is = inr (i - old.units, grind (arith, nat_tests), grind (arith, nat_tests))

    -- ---- an arrival

    abbrev Comes : Arrival → Type 0
    Comes a = next_of (turn_of old) old.parts.processed left ≡ next.Arrival a

    awaited_by : (a : Arrival) → ((turn_of old ≡ turn.Idle) × (nat_le a.after old.parts.processed ≡ true)) ⊎ (turn_of old ≡ turn.Empty)
        → (b : Bool) × StandsIdle m.state b × ((nat_le a.after m.state.processed || b) ≡ true)
    awaited_by a (inl (idle, early)) =
        (false, stands_idle old.parts m.state h.at.stands (idle_where old idle), rw (← h.at.stands.processed) (rw early refl))
    awaited_by a (inr empty) =
        (true, stands_empty old.parts m.state h.at.stands (empty_where old empty), either_true (nat_le a.after m.state.processed))
      where
        either_true : (b : Bool) → (b || true) ≡ true
        either_true true = refl
        either_true false = refl

    due_then : (a : Arrival) → Comes a → due_arrival m.state m.left ≡ Some a
    due_then a comes =
        let next = comes_next (turn_of old) old.parts.processed left a comes in
        let idle = awaited_by a next.awaited in
        rw h.left_is (rw next.first (due_where m.state idle.0 a (drop 1 left) true idle.1 idle.2))

    pub waits_then : (a : Arrival) → Comes a → end_of r.plan m ≡ None
    waits_then a comes =
        let next = comes_next (turn_of old) old.parts.processed left a comes in
        let idle = awaited_by a next.awaited in
        rw h.left_is (rw next.first (waits_on r.plan m.state a (drop 1 left) (calendar m.state).agenda idle.1.control refl))

    -- the unit of the arrival is that of the run
    pub arrival_comes_to : (a : Arrival) → Comes a
        → course_after r (old.units + 1) ≡ record { state = arrive (plan_of script_body old.parts) a.port a.value m.state; left = drop 1 m.left }
    arrival_comes_to a comes =
        ap (course_after r) (add-one old.units)
        ∙ (rw (due_then a comes) refl ∙ ap (λ g. record { state = arrive g a.port a.value m.state; left = drop 1 m.left }) (sym (plan_is old.parts h.code h.setup h.seeded)))

    pub after_arrival : (a : Arrival) → Comes a → new.units ≡ old.units + 1 → new.refused ≡ false
        → IsAt new (arrive (plan_of script_body old.parts) a.port a.value m.state) → StandsInRun s seed journal (drop 1 left) new
    after_arrival a comes units none_refused at =
        let is = ap (course_after r) units ∙ arrival_comes_to a comes in
        record {
          code = code_kept;
          setup = setup_kept;
          seeded = seed_kept;
          at = subst (λ (t : State Script). IsAt new t) (sym (ap (λ c. c.state) is)) at;
          left_is = ap (λ c. c.left) is ∙ ap (drop 1) h.left_is;
          under_way = λ i below. by_last i (cases_eq i old.units) below;
          refused = λ refused. absurd (false≢true (sym none_refused ∙ refused));
        }
      where
        by_last : (i : ℕ) → (i ≡ old.units) ⊎ ((i ≡ old.units) → ⊥) → i < new.units → end_of r.plan (course_after r i) ≡ None
        by_last i (inl same) below = subst (λ n. end_of r.plan (course_after r n) ≡ None) (sym same) (waits_then a comes)
        by_last i (inr differ) below = h.under_way i (grind (arith, units, differ, below))

    -- no unit was left for it
    pub after_refusal : (a : Arrival) → Comes a → old.units ≡ old.limit → new ≡ record old { refused = true } → StandsInRun s seed journal left new
    after_refusal a comes spent is =
        let next = comes_next (turn_of old) old.parts.processed left a comes in
        let some : 0 < length left = rw next.first (omega arith) in
        subst (StandsInRun s seed journal left) (sym is) (record {
          code = h.code;
          setup = h.setup;
          seeded = h.seeded;
          at = record { stands = h.at.stands; lawful = h.at.lawful; logs = h.at.logs; total = h.at.total };
          left_is = h.left_is;
          under_way = h.under_way;
          refused = λ _. record { spent = spent; some_left = some; waits = (takes_where old next.takes).1 };
        })
