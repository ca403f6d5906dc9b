-- A run with an arrival more behind all others, which is to come in once as many events were processed as by now, is the same run up to now.
--     processed_later      the number of events processed never falls
--     stands_added         a session stands where the run with the arrival does, and the arrival is left
--     text_added           what was written by now is the same
-- So a run whose journal grows as it goes is followed from turn to turn, and from arrival to arrival.
--     after_idle_turn, idle_turn_text          a turn of a session of which nothing is left
--     after_last_arrival, last_arrival_text    what came last comes in
--     after_last_refusal                       or it came when all units were spent
--     over_whole, over_summary                 where it is over, it came to what the whole run comes to
use Rattle.std.proofs.Common.{◌≡◌, ◌≢◌, ◌≤◌, ◌<◌, ℕ, ℤ, zero, suc, ◌+◌, ◌-◌, List, [], ◌∷◌, ◌++◌, true, false, None, refl, sym, ap, ◌∙◌, subst, arith, add-zero}
use Rattle.std.specs.Prelude.{nat_le, nat_lt, if◌then◌else◌}
use Rattle.std.proofs.lemmas.Bool.{false≢true}
use Rattle.std.proofs.Math.Nat.{add-suc}
use Rattle.std.proofs.lemmas.Bool.Decides.{nat_tests}
use Rattle.std.proofs.lemmas.List.{length-append}
use Rattle.std.proofs.lemmas.Option.{none-some}
use Rattle.sim_types.specs.Scenarios.{ScenarioOf}
use Rattle.sim_types.specs.declared.event.Entry.{Entry}
use Rattle.sim_types.specs.declared.setup.Arrival.{Arrival}
use Rattle.sim_types.specs.declared.line.Line.TheVariants as line
use Rattle.sim_trace.specs.Texts.{line_text, trace_text}
use Rattle.sim_machine.specs.State.{Control, Idle, Calling, Active, Over, State, Plan}
use Rattle.sim_machine.specs.Effect.{calendar}
use Rattle.sim_machine.specs.Steps.{TurnFunction}
use Rattle.sim_machine.specs.Units.{Course, arrive, due_arrival, unit_of}
use Rattle.sim_machine.specs.Runs.{end_of, end_by, opening_course}
use Rattle.sim_machine_law.specs.Courses.{Run, course_after}
use Rattle.sim_machine_law.proofs.RunLaws.JournalLaws.{added, IsNotDue, units_added, unit_processed}
use Rattle.sim_steps_model.specs.PartsOf.{plan_of}
use Rattle.sim_script_model.specs.Scripts.{Script}
use Rattle.sim_script_model.specs.Scenarios.{summary}
use Rattle.sim_script_law.specs.ScriptMembers.{script_body}
use Rattle.sim_script_law.specs.ScenarioRuns.{run_of}
use Rattle.sim_engine.specs.Sessions.{SessionOf, IsAt, GoesOn, IsBusyBetween, IsSettled, steps_in, takes_arrivals, text_of_steps, turn_of, report_of}
use Rattle.sim_engine.specs.Rounds.{StandsInRun, next_of, text_by}
use Rattle.sim_engine.specs.declared.runs.Next.TheVariants as next
use Rattle.sim_engine.specs.declared.session.Turn.{Turn}
use Rattle.sim_engine.specs.declared.session.Turn.TheVariants as turn
use Rattle.sim_engine.proofs.Rounds.{after_turn, after_arrival, after_refusal}
use Rattle.sim_engine.proofs.RunEnds.{stays_whole, summary_is}
use Rattle.sim_engine.proofs.RunTexts.{turn_text, arrived_text}

-- ---- the events processed

pub processed_later : (r : Run Script) (n k : ℕ) → (course_after r n).state.processed ≤ (course_after r (n + k)).state.processed
processed_later r n zero = rw add-zero (omega arith)
processed_later r n (suc k) = rw add-suc (omega (arith, processed_later r n k, unit_processed r.plan r.turn (course_after r (n + k))))

-- ---- an arrival that is not due before now

is_late : (a b : ℕ) → b < a → nat_le a b ≡ false
is_late a b h = grind (arith, nat_tests)

pops_one : (g : Plan Script) (turn : TurnFunction Script) (t : State Script) (x : Entry) (es : List Entry) → Idle ≡ t.control
    → x ∷ es ≡ (calendar t).agenda → (unit_of g turn (record { state = t; left = [] })).state.processed ≡ t.processed + 1
pops_one g turn t x es c a = rw (← c) (rw (← a) refl)

-- a machine that is idle and has not ended processes an event next
not_due_by : (g : Plan Script) (turn : TurnFunction Script) (a : Arrival) (t : State Script) (c : Control) (agenda : List Entry)
    → c ≡ t.control → agenda ≡ (calendar t).agenda → end_by g c agenda [] ≡ None
    → (unit_of g turn (record { state = t; left = [] })).state.processed ≤ a.after → due_arrival t (a ∷ []) ≡ None
not_due_by g turn a t Idle [] c e on next = absurd (none-some _ (sym on))
not_due_by g turn a t Idle (x ∷ es) c e on next =
    let late : nat_le a.after t.processed ≡ false = is_late a.after t.processed (omega (arith, pops_one g turn t x es c e, next)) in
    rw (← c) (rw (← e) (rw late refl))
not_due_by g turn a t (Calling f calls) agenda c e on next = rw (← c) refl
not_due_by g turn a t (Active f calls p told) agenda c e on next = rw (← c) refl
not_due_by g turn a t (Over why f calls) agenda c e on next = rw (← c) refl

not_due : (g : Plan Script) (turn : TurnFunction Script) (a : Arrival) (m : Course Script) → end_of g m ≡ None
    → (unit_of g turn m).state.processed ≤ a.after → IsNotDue a m
not_due g turn a m on next none =
    let P : List Arrival → Type 0 = λ l. end_of g (record { state = m.state; left = l }) ≡ None in
    let Q : List Arrival → Type 0 = λ l. (unit_of g turn (record { state = m.state; left = l })).state.processed ≤ a.after in
    not_due_by g turn a m.state m.state.control (calendar m.state).agenda refl refl (subst P none on) (subst Q none next)

-- with an arrival more a run has not ended where it had not
goes_on_by : (g : Plan Script) (c : Control) (agenda : List Entry) (left : List Arrival) (a : Arrival) → end_by g c agenda left ≡ None
    → end_by g c agenda (left ++ a ∷ []) ≡ None
goes_on_by g Idle [] [] a on = refl
goes_on_by g Idle [] (x ∷ left) a on = refl
goes_on_by g Idle (e ∷ agenda) left a on = refl
goes_on_by g (Calling e calls) agenda left a on = refl
goes_on_by g (Active e calls p told) agenda left a on = refl
goes_on_by g (Over why e calls) agenda left a on = absurd (none-some _ (sym on))

module _ (s : ScenarioOf) (seed : ℕ) (journal left : List Arrival) (x : SessionOf) (a : Arrival) (h : StandsInRun s seed journal left x)
    (comes : a.after ≡ x.parts.processed) where
  abbrev r : Run Script
  r = run_of s seed journal

  abbrev more : Run Script
  more = run_of s seed (journal ++ a ∷ [])

  waits : (k n : ℕ) → n ≤ x.units → k < n → IsNotDue a (course_after r k)
  waits k n within below =
      let by : k + 1 + (x.units - (k + 1)) ≡ x.units = omega (arith, within, below) in
      let later = subst (λ i. (course_after r (k + 1)).state.processed ≤ (course_after r i).state.processed) by (processed_later r (k + 1) (x.units - (k + 1))) in
      let same : suc k ≡ k + 1 = omega arith in
      let one : (unit_of r.plan r.turn (course_after r k)).state.processed ≡ (course_after r (k + 1)).state.processed = ap (λ i. (course_after r i).state.processed) same in
      let next : (unit_of r.plan r.turn (course_after r k)).state.processed ≤ a.after = omega (arith, later, one, comes, h.at.stands.processed) in
      not_due r.plan r.turn a (course_after r k) (h.under_way k (omega (arith, within, below))) next

  -- up to now it is the same, and the arrival is left
  pub course_added : (n : ℕ) → n ≤ x.units → course_after more n ≡ added a (course_after r n)
  course_added n within = units_added r.plan r.turn a (opening_course r.plan journal) n (λ k below. waits k n within below)

  pub stands_added : StandsInRun s seed (journal ++ a ∷ []) (left ++ a ∷ []) x
  stands_added =
      let is = course_added x.units (omega arith) in
      record {
        code = h.code;
        setup = h.setup;
        seeded = h.seeded;
        at = subst (λ (t : State Script). IsAt x t) (sym (ap (λ c. c.state) is)) h.at;
        left_is = ap (λ c. c.left) is ∙ ap (λ l. l ++ a ∷ []) h.left_is;
        under_way = λ k below.
            ap (end_of r.plan) (course_added k (omega (arith, below)))
            ∙ goes_on_by r.plan (course_after r k).state.control (calendar (course_after r k).state).agenda (course_after r k).left a (h.under_way k below);
        refused = λ refused.
            let why = h.refused refused in
            record { spent = why.spent; some_left = omega (arith, why.some_left, length-append left (a ∷ [])); waits = why.waits };
      }

  pub text_added : text_by s seed (journal ++ a ∷ []) x.units ≡ text_by s seed journal x.units
  text_added = ap (λ c. trace_text s.port_names c.state.lines) (course_added x.units (omega arith))

-- ---- a turn of a session of which nothing is left

module _ (s : ScenarioOf) (seed : ℕ) (journal : List Arrival) (old new : SessionOf) (h : StandsInRun s seed journal [] old) (on : GoesOn old new)
    (idle : turn_of old ≡ turn.Idle) where
  turn_comes : next_of (turn_of old) old.parts.processed [] ≡ next.Turn
  turn_comes = rw idle refl

  pub idle_turn_text : (k : ℕ) → new.units ≡ old.units + k → IsBusyBetween old.parts k (course_after (run_of s seed journal) old.units).state
      → text_by s seed journal new.units
      ≡ text_by s seed journal old.units ++ text_of_steps s.port_names old.parts k (course_after (run_of s seed journal) old.units).state
  idle_turn_text k units busy = turn_text s seed journal [] old new h on k units turn_comes busy

  pub after_idle_turn : (k : ℕ) → new.units ≡ old.units + k → new.refused ≡ false
      → IsBusyBetween old.parts k (course_after (run_of s seed journal) old.units).state
      → IsAt new (steps_in old.parts k (course_after (run_of s seed journal) old.units).state) → StandsInRun s seed journal [] new
  after_idle_turn k units none_refused busy at = after_turn s seed journal [] old new h on k units turn_comes none_refused busy at

-- ---- what came last comes in

module _ (s : ScenarioOf) (seed : ℕ) (journal : List Arrival) (a : Arrival) (old new : SessionOf) (h : StandsInRun s seed journal (a ∷ []) old)
    (on : GoesOn old new) (takes : takes_arrivals (turn_of old) ≡ true) (due : a.after ≡ old.parts.processed) where
  early : nat_le a.after old.parts.processed ≡ true
  early = grind (arith, nat_tests, due)

  arrival_comes : next_of (turn_of old) old.parts.processed (a ∷ []) ≡ next.Arrival a
  arrival_comes = by (turn_of old) takes
    where
      by : (t : Turn) → takes_arrivals t ≡ true → next_of t old.parts.processed (a ∷ []) ≡ next.Arrival a
      by turn.Idle k = rw early refl
      by turn.Empty k = refl
      by (turn.Over why) k = absurd (false≢true k)

  pub last_arrival_text : (value : ℤ) → value ≡ a.value → old.units ≤ new.units → new.units ≤ old.units + 1
      → text_by s seed journal new.units ≡ text_by s seed journal old.units
      ++ (if nat_lt old.units new.units then line_text s.port_names (line.Arrive old.parts.processed value a.port) else [])
  last_arrival_text value same from most = arrived_text s seed journal (a ∷ []) old new h on a value same from most arrival_comes

  pub after_last_arrival : new.units ≡ old.units + 1 → new.refused ≡ false
      → IsAt new (arrive (plan_of script_body old.parts) a.port a.value (course_after (run_of s seed journal) old.units).state)
      → StandsInRun s seed journal [] new
  after_last_arrival units none_refused at = after_arrival s seed journal (a ∷ []) old new h on a arrival_comes units none_refused at

  pub after_last_refusal : old.units ≡ old.limit → new ≡ record old { refused = true } → StandsInRun s seed journal (a ∷ []) new
  after_last_refusal spent is = after_refusal s seed journal (a ∷ []) old new h on a arrival_comes spent is

-- ---- where it is over

module _ (s : ScenarioOf) (seed : ℕ) (journal left : List Arrival) (x : SessionOf) (h : StandsInRun s seed journal left x)
    (within : x.units ≤ x.limit) (settled : IsSettled x) (over : turn_of x ≢ turn.Idle) (in_time : takes_arrivals (turn_of x) ≡ true → left ≡ []) where
  none_comes : next_of (turn_of x) x.parts.processed left ≡ next.End
  none_comes = by (turn_of x) refl
    where
      by : (t : Turn) → turn_of x ≡ t → next_of t x.parts.processed left ≡ next.End
      by turn.Idle is = absurd (over is)
      by turn.Empty is = rw (in_time (ap takes_arrivals is)) refl
      by (turn.Over why) is = refl

  pub over_whole : course_after (run_of s seed journal) x.limit ≡ course_after (run_of s seed journal) x.units
  over_whole = stays_whole s seed journal left x h within settled none_comes

  pub over_summary : (report_of x).summary ≡ summary s seed journal x.limit
  over_summary = summary_is s seed journal left x h within settled none_comes
