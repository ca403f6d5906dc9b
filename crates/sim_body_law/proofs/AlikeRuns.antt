-- Runs of bodies that are alike: after as many units they stand in alike states, write the same lines and come to the same.
--     trace_alike, summary_alike
use Rattle.std.proofs.Common.{◌≡◌, ℕ, zero, suc, ℤ, Bool, true, false, List, [], ◌∷◌, ◌++◌, Option, None, Some, refl, sym, ap, ◌∙◌, subst, ◌<◌, arith}
use Rattle.std.specs.Prelude.{cond, drop, fold, slice_index_or, unwrap_or, All}
use Rattle.std.proofs.lemmas.List.Elements.{All-head, All-tail}
use Rattle.sim_types.specs.declared.event.Entry.{Entry}
use Rattle.sim_types.specs.declared.event.ProcId.{ProcId}
use Rattle.sim_types.specs.declared.event.Signal.{Signal}
use Rattle.sim_types.specs.declared.line.End.TheVariants as end
use Rattle.sim_types.specs.declared.line.Line.TheVariants as line
use Rattle.sim_types.specs.declared.op.Op.{Op}
use Rattle.sim_types.specs.declared.setup.Arrival.{Arrival}
use Rattle.sim_types.specs.declared.setup.Start.{Start}
use Rattle.sim_machine.specs.State.{Control, Idle, Calling, Active, Over, Plan, ProcessOf, State}
use Rattle.sim_machine.specs.Agenda.{due}
use Rattle.sim_machine.specs.Scopes.{on_events}
use Rattle.sim_machine.specs.Processes.{make_process, process_at, with_body, write_line}
use Rattle.sim_machine.specs.Effect.{calendar, effect}
use Rattle.sim_machine.specs.Steps.{TurnFunction, poll_if_any, pop_if_any, step_at}
use Rattle.sim_machine.specs.Units.{Course, arrive, due_arrival, unit_at, unit_of}
use Rattle.sim_machine.specs.Runs.{after_units, blank_state, end_by, end_word, opening, opening_course, run, set_stop, start_process, summary_of, trace_of}
use Rattle.sim_body_law.proofs.AlikeBodies.{AreAlike, ArrivesAlike, IsToldWell, AsksAlike, Begins, BeginsAlike, plan_with_bodies}
use Rattle.sim_body_law.proofs.AlikeStates.{AllAlike, AlikeStates, FoundAlike, KeepsAlike, at_alike, body_alike, make_alike, then_alike, with_processes}
use Rattle.sim_body_law.proofs.AlikeOperations.{call_or_settle_alike, effect_alike}

module _ {B C : Type 0} (like : B → C → Type 0) (may : B → Signal → Type 0) (g : Plan B) (start : Begins C) (turn : TurnFunction B)
    (again : TurnFunction C) (alike : AreAlike like may g start turn again) where
  abbrev g2 : Plan C
  g2 = plan_with_bodies start g

  -- ---- a step

  poll_alike : (p : ProcId) (told : Signal) (x : Option (ProcessOf B)) (y : Option (ProcessOf C)) → FoundAlike like x y
      → ((one : ProcessOf B) → x ≡ Some one → may one.body told) → (s : State B)
      → KeepsAlike like (poll_if_any g turn p told x) (poll_if_any g2 again p told y) s
  poll_alike p told None None found well s ys h = record { processes = ys; alike = h; is = refl }
  poll_alike p told None (Some y) found well s ys h = absurd found
  poll_alike p told (Some x) None found well s ys h = absurd found
  poll_alike p told (Some x) (Some y) found well s ys h =
      let time = (calendar s).time in
      let first : Op × B = turn x.body time told in
      let second : Op × C = again y.body time told in
      let asks : AsksAlike like g.start start first second = alike.polls x.body y.body found.body time told (well x refl) in
      let placed : AlikeStates like (with_body p first.1 s) (with_body p second.1 (with_processes like ys s)) =
      body_alike like p s ys h first.1 second.1 asks.bodies in
      subst (λ o. AlikeStates like (effect g p first.0 (with_body p first.1 s)) (effect g2 p o (with_body p second.1 (with_processes like ys s))))
      (sym asks.asked)
      (then_alike like (effect g p first.0) (effect g2 p first.0) (with_body p first.1 s) _ placed
      (effect_alike like g start p first.0 asks.spawned (with_body p first.1 s)))

  pop_alike : (x : Option Entry) (s : State B) → KeepsAlike like (pop_if_any x) (pop_if_any x) s
  pop_alike None s ys h = record { processes = ys; alike = h; is = refl }
  pop_alike (Some x) s ys h = record { processes = ys; alike = h; is = refl }

  step_alike : (s : State B) → IsToldWell may s → (c : Control) → s.control ≡ c → (ys : List (ProcessOf C)) → AllAlike like s.processes ys
      → AlikeStates like (step_at g turn s c) (step_at g2 again (with_processes like ys s) c)
  step_alike s well Idle is ys h = pop_alike (due (calendar s).agenda) s ys h
  step_alike s well (Calling e left) is ys h = call_or_settle_alike like g start e left s ys h
  step_alike s well (Active e left p told) is ys h =
      poll_alike p told (process_at p s) (process_at p (with_processes like ys s)) (at_alike like p s ys h)
      (λ one at. well.told e left p told one is at) s ys h
  step_alike s well (Over why e left) is ys h = record { processes = ys; alike = h; is = refl }

  -- ---- a unit

  abbrev pub arrives_alike : Arrival → Type 0
  arrives_alike a = ArrivesAlike like g start a

  pub record AlikeCourses (m : Course B) (n : Course C) : Type 0 where
    pub states : AlikeStates like m.state n.state
    pub left : n.left ≡ m.left
    pub arrivals : All arrives_alike m.left

  arrive_alike : (port : ℕ) (value : ℤ) → BeginsAlike like g.start start (slice_index_or g.setup.ports port 0) (value ∷ []) → (s : State B)
      → KeepsAlike like (arrive g port value) (arrive g2 port value) s
  arrive_alike port value begins s ys h =
      let does : State B → State B = λ t. write_line (line.Arrive s.processed value port) t in
      let kind : ℕ = slice_index_or g.setup.ports port 0 in
      then_alike like does (λ t. write_line (line.Arrive s.processed value port) t) (make_process g kind (value ∷ []) s) _
      (make_alike like g start kind (value ∷ []) begins s ys h) (λ zs k. record { processes = zs; alike = k; is = refl })

  due_alike : (s : State B) (ys : List (ProcessOf C)) (left : List Arrival) → due_arrival (with_processes like ys s) left ≡ due_arrival s left
  due_alike s ys [] = refl
  due_alike s ys (a ∷ left) = refl

  -- what is due is the first that is left
  abbrev IsFirst : Arrival → List Arrival → Type 0
  IsFirst a left = left ≡ a ∷ drop 1 left

  first_due : (s : State B) (left : List Arrival) (a : Arrival) → due_arrival s left ≡ Some a → IsFirst a left
  first_due s [] a is = absurd (cc)
  first_due s (x ∷ left) a is = by _ is
    where
      by : (b : Bool) → cond b (Some x) None ≡ Some a → IsFirst a (x ∷ left)
      by true h = ap (λ y. y ∷ left) (cc)
      by false h = absurd (cc)

  -- the course with other processes in its state
  abbrev with_those : List (ProcessOf C) → Course B → Course C
  with_those ys m = record { state = with_processes like ys m.state; left = m.left }

  is_with_those : (m : Course B) (n : Course C) (h : AlikeCourses m n) → n ≡ with_those h.states.processes m
  is_with_those m n h = λ i. record { state = h.states.is i; left = h.left i }

  module _ (m : Course B) (well : IsToldWell may m.state) (arrivals : All arrives_alike m.left) (ys : List (ProcessOf C)) (h : AllAlike like m.state.processes ys) where
    unit_alike_at : (x : Option Arrival) → due_arrival m.state m.left ≡ x → AlikeCourses (unit_at g turn m x) (unit_at g2 again (with_those ys m) x)
    unit_alike_at None is = record { states = step_alike m.state well m.state.control refl ys h; left = refl; arrivals = arrivals }
    unit_alike_at (Some a) is =
        let all : All arrives_alike (a ∷ drop 1 m.left) = subst (All arrives_alike) (first_due m.state m.left a is) arrivals in
        record {
          states = arrive_alike a.port a.value (All-head arrives_alike a (drop 1 m.left) all) m.state ys h;
          left = refl;
          arrivals = All-tail arrives_alike a (drop 1 m.left) all;
        }

    unit_alike_there : AlikeCourses (unit_of g turn m) (unit_of g2 again (with_those ys m))
    unit_alike_there =
        subst (λ x. AlikeCourses (unit_of g turn m) (unit_at g2 again (with_those ys m) x)) (sym (due_alike m.state ys m.left))
        (unit_alike_at (due_arrival m.state m.left) refl)

  unit_alike : (m : Course B) (n : Course C) → IsToldWell may m.state → AlikeCourses m n → AlikeCourses (unit_of g turn m) (unit_of g2 again n)
  unit_alike m n well h =
      subst (λ (k : Course C). AlikeCourses (unit_of g turn m) (unit_of g2 again k)) (sym (is_with_those m n h))
      (unit_alike_there m well h.arrivals h.states.processes h.states.alike)

  abbrev IsToldWellAfter : Course B → ℕ → Type 0
  IsToldWellAfter m k = IsToldWell may (after_units g turn k m).state

  units_alike : (k : ℕ) (m : Course B) (n : Course C) → ((i : ℕ) → i < k → IsToldWellAfter m i) → AlikeCourses m n
      → AlikeCourses (after_units g turn k m) (after_units g2 again k n)
  units_alike zero m n well h = h
  units_alike (suc k) m n well h =
      unit_alike (after_units g turn k m) (after_units g2 again k n) (well k (omega arith))
      (units_alike k m n (λ i below. well i (omega (arith, below))) h)

  -- ---- whole runs

  abbrev starts_alike : Start → Type 0
  starts_alike x = BeginsAlike like g.start start x.kind x.args

  started : (xs : List Start) → All starts_alike xs → (s : State B) → KeepsAlike like (λ t. fold (start_process g) t xs) (λ t. fold (start_process g2) t xs) s
  started [] all s ys h = record { processes = ys; alike = h; is = refl }
  started (x ∷ xs) all s ys h =
      then_alike like (λ t. fold (start_process g) t xs) (λ t. fold (start_process g2) t xs) (start_process g s x) _
      (make_alike like g start x.kind x.args (All-head starts_alike x xs all) s ys h) (started xs (All-tail starts_alike x xs all) (start_process g s x))

  opening_alike : AlikeStates like (opening g) (opening g2)
  opening_alike =
      then_alike like (on_events (set_stop g.setup.until)) (on_events (set_stop g.setup.until)) (fold (start_process g) (blank_state g) g.setup.starts) _
      (started g.setup.starts alike.starts (blank_state g) [] tt) (λ zs k. record { processes = zs; alike = k; is = refl })

  pub run_alike : (journal : List Arrival) → All arrives_alike journal → (limit : ℕ)
      → ((i : ℕ) → i < limit → IsToldWell may (run g turn journal i).state) → AlikeCourses (run g turn journal limit) (run g2 again journal limit)
  run_alike journal arrivals limit well =
      units_alike limit (opening_course g journal) (opening_course g2 journal) well (record { states = opening_alike; left = refl; arrivals = arrivals })

  -- ---- what it comes to

  ended : (c : Control) (agenda : List Entry) (left : List Arrival) → end_by g2 c agenda left ≡ end_by g c agenda left
  ended Idle [] [] = refl
  ended Idle [] (a ∷ left) = refl
  ended Idle (x ∷ agenda) left = refl
  ended (Calling e calls) agenda left = refl
  ended (Active e calls p told) agenda left = refl
  ended (Over why e calls) agenda left = refl

  pub end_alike : (m : Course B) (n : Course C) → AlikeCourses m n → end_word g2 n ≡ end_word g m
  end_alike m n h =
      ap (end_word g2) (is_with_those m n h) ∙ ap (λ x. unwrap_or x end.Limit) (ended m.state.control (calendar m.state).agenda m.left)

  pub lines_alike : (m : Course B) (n : Course C) → AlikeCourses m n → n.state.lines ≡ m.state.lines
  lines_alike m n h = ap (λ (k : Course C). k.state.lines) (is_with_those m n h)

  pub trace_alike : (m : Course B) (n : Course C) → AlikeCourses m n → trace_of g2 n ≡ trace_of g m
  trace_alike m n h =
      ap (trace_of g2) (is_with_those m n h)
      ∙ ap (λ w. m.state.lines ++ line.Finish (calendar m.state).time m.state.processed w ∷ []) (ap (λ x. unwrap_or x end.Limit) (ended m.state.control (calendar m.state).agenda m.left))

  pub summary_alike : (m : Course B) (n : Course C) → AlikeCourses m n → summary_of g2 n ≡ summary_of g m
  summary_alike m n h =
      ap (summary_of g2) (is_with_those m n h)
      ∙ ap (λ w. record (summary_of g m) { end = w }) (ap (λ x. unwrap_or x end.Limit) (ended m.state.control (calendar m.state).agenda m.left))
