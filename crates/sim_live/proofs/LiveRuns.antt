-- A live run goes on by turns and arrivals, and stands where the machine does on its journal.
use Rattle.std.proofs.Common.{◌≡◌, ◌≤◌, ◌<◌, ℕ, ℤ, ◌+◌, ◌-◌, List, [], ◌∷◌, ◌++◌, Bool, true, false, refl, sym, ap, ◌∙◌, subst, arith, w64, to_z, of_z, FitsSigned, Ok}
use Rattle.std.specs.Prelude.{int_le, nat_lt, if◌then◌else◌, Result, IsTrue}
use Rattle.std.proofs.lemmas.Bool.{false≢true, and_from}
use Rattle.std.proofs.lemmas.Int.{ints, to_z-of_z}
use Rattle.std.proofs.lemmas.Bool.Decides.{nat_tests}
use Rattle.std.specs.List.{list_all}
use Rattle.std.proofs.lemmas.List.Elements.{All-nil}
use Rattle.sim_types.specs.Scenarios.{ScenarioOf}
use Rattle.sim_types.specs.Setups.{is_within}
use Rattle.sim_types.specs.declared.setup.Arrival.{Arrival}
use Rattle.sim_types.specs.declared.line.Line.TheVariants as line
use Rattle.sim_outside.specs.Writes.{SinkOf, Writes}
use Rattle.sim_language.specs.Numbers.{least, greatest}
use Rattle.sim_language.specs.WellFormed.{never_falls}
use Rattle.sim_language_law.proofs.Setups.FittingSetup.{list_all_push}
use Rattle.sim_trace.specs.Texts.{line_text}
use Rattle.sim_machine.specs.State.{State}
use Rattle.sim_machine.specs.Runs.{opening}
use Rattle.sim_machine.specs.Units.{arrive}
use Rattle.sim_machine_law.specs.Courses.{course_after}
use Rattle.sim_steps_model.specs.PartsOf.{plan_of}
use Rattle.sim_script_model.specs.Scripts.{Script}
use Rattle.sim_script_law.specs.ScriptMembers.{script_body}
use Rattle.sim_inbox.specs.declared.taken.Taken.{Taken}
use Rattle.sim_script_law.specs.ScenarioRuns.{run_of}
use Rattle.sim_writing.specs.declared.fault.RunFault.{RunFault}
use Rattle.sim_engine.specs.declared.session.Turn.TheVariants as turn
use Rattle.sim_writing.specs.RunFaults.{is_write}
use Rattle.sim_engine.specs.Rounds.{StandsInRun}
use Rattle.sim_engine.specs.Sessions.{SessionOf, IsAt, GoesOn, IsBusyBetween, IsSettled, steps_in, takes_arrivals, text_of_steps, turn_of}
use Rattle.sim_engine.proofs.AddedArrivals.{processed_later, stands_added, text_added, idle_turn_text, after_idle_turn, last_arrival_text, after_last_arrival, after_last_refusal}
use Rattle.sim_engine.proofs.Rounds.{at_opening}
use Rattle.sim_live.specs.Journals.{arrival_of}
use Rattle.sim_live.specs.LiveRuns.{LiveOf, IsLive, WritesOn, text_so_far}
use Rattle.sim_live.proofs.Journals.{falls_next, later_all, next_all}
use Rattle.sim_live.proofs.WrittenOn.{on_by, on_same}

-- a run of which nothing came yet
pub live_opened : (s : ScenarioOf) (x : SessionOf) → x.parts.code ≡ s → x.parts.setup ≡ s.setup → x.parts.seed ≡ s.seed → x.units ≡ 0
    → x.refused ≡ false → IsAt x (opening (plan_of script_body x.parts)) → IsSettled x → IsLive s (record { session = x; journal = [] })
live_opened s x code setup seeded units none_refused at settled =
    record {
      too_late = [];
      stands = at_opening s s.seed [] x code setup seeded units none_refused at;
      in_time = λ _. refl;
      settled = settled;
      within = omega (arith, units);
      falls = refl;
      by_now = All-nil (λ a. a.after ≤ x.parts.processed);
      values = refl;
    }

-- a live run of this session and journal
abbrev pub run_with : SessionOf → List Arrival → LiveOf
run_with x journal = record { session = x; journal = journal }

-- the state of the machine that it stands for
abbrev pub state_at : ScenarioOf → List Arrival → SessionOf → State Script
state_at s journal x = (course_after (run_of s s.seed journal) x.units).state

-- where an arrival may come in, none came too late
in_time_at : (s : ScenarioOf) (journal : List Arrival) (x : SessionOf) → IsLive s (run_with x journal) → takes_arrivals (turn_of x) ≡ true
    → StandsInRun s s.seed journal [] x
in_time_at s journal x h takes = subst (λ l. StandsInRun s s.seed journal l x) (h.in_time takes) h.stands

-- ---- a turn

module _ (s : ScenarioOf) (journal : List Arrival) (old new : SessionOf) (h : IsLive s (run_with old journal)) (on : GoesOn old new)
    (idle : turn_of old ≡ turn.Idle) (from : old.units ≤ new.units)
    (busy : (t : State Script) → IsAt old t → IsBusyBetween old.parts (new.units - old.units) t) where
  abbrev k : ℕ
  k = new.units - old.units

  units_more : new.units ≡ old.units + k
  units_more = omega (arith, from)

  stands_now : StandsInRun s s.seed journal [] old
  stands_now = in_time_at s journal old h (rw idle refl)

  pub turn_written : {T : Type 0} (a b : SinkOf) (answer : Result T RunFault)
      → Writes is_write a b answer (text_of_steps s.port_names old.parts k (state_at s journal old))
      → WritesOn s (run_with old journal) (run_with new journal) a b answer
  turn_written a b answer written =
      on_by s (run_with old journal) (run_with new journal) a b answer (text_of_steps s.port_names old.parts k (state_at s journal old)) written
      (idle_turn_text s s.seed journal old new stands_now on idle k units_more (busy (state_at s journal old) h.stands.at))

  pub turn_live : new.refused ≡ false → new.units ≤ old.limit → IsSettled new
      → ((t : State Script) → IsAt old t → IsAt new (steps_in old.parts k t)) → IsLive s (run_with new journal)
  turn_live none_refused within settled steps =
      let stands = after_idle_turn s s.seed journal old new stands_now on idle k units_more none_refused
      (busy (state_at s journal old) h.stands.at) (steps (state_at s journal old) h.stands.at) in
      let later = subst (λ n. (state_at s journal old).processed ≤ (course_after (run_of s s.seed journal) n).state.processed) (sym units_more)
      (processed_later (run_of s s.seed journal) old.units k) in
      record {
        too_late = [];
        stands = stands;
        in_time = λ _. refl;
        settled = settled;
        within = omega (arith, within, on.limit);
        falls = h.falls;
        by_now = later_all journal old.parts.processed new.parts.processed
            (omega (arith, later, h.stands.at.stands.processed, stands.at.stands.processed)) h.by_now;
        values = h.values;
      }

-- ---- an arrival

-- the entry of what comes now, and the journal with it
abbrev pub entry_now : SessionOf → Taken → Arrival
entry_now x t = arrival_of x.parts.processed t

abbrev pub with_entry : List Arrival → SessionOf → Taken → List Arrival
with_entry journal x t = journal ++ entry_now x t ∷ []

-- the entry of a post whose value has 64 bits
abbrev is_valued : Arrival → Bool
is_valued a = is_within least greatest a.value

in_64_bits : (v : ℤ) → FitsSigned w64 v → is_within least greatest v ≡ true
in_64_bits v fits =
    let low : int_le least v ≡ true = grind (arith, ints) in
    let high : int_le v greatest ≡ true = grind (arith, ints) in
    and_from (int_le least v) (int_le v greatest) low high

module _ (s : ScenarioOf) (journal : List Arrival) (old : SessionOf) (h : IsLive s (run_with old journal)) (t : Taken) where
  valued : is_valued (entry_now old t) ≡ true → list_all is_valued (with_entry journal old t) ≡ true
  valued value = list_all_push is_valued journal (entry_now old t) h.values value

  pub falls_on : IsTrue (never_falls (with_entry journal old t))
  falls_on = falls_next journal (entry_now old t) h.falls h.by_now

  -- it came when the run was over
  pub over_text : text_so_far s (run_with old (with_entry journal old t)) ≡ text_so_far s (run_with old journal)
  over_text = text_added s s.seed journal h.too_late old (entry_now old t) h.stands refl

  pub over_live : is_valued (entry_now old t) ≡ true → takes_arrivals (turn_of old) ≡ false → IsLive s (run_with old (with_entry journal old t))
  over_live value over =
      record {
        too_late = h.too_late ++ entry_now old t ∷ [];
        stands = stands_added s s.seed journal h.too_late old (entry_now old t) h.stands refl;
        in_time = λ takes. absurd (false≢true (sym over ∙ takes));
        settled = h.settled;
        within = h.within;
        falls = falls_on;
        by_now = next_all journal old.parts.processed (entry_now old t) (omega arith) h.by_now;
        values = valued value;
      }

  stands_more : takes_arrivals (turn_of old) ≡ true → StandsInRun s s.seed (with_entry journal old t) (entry_now old t ∷ []) old
  stands_more takes = stands_added s s.seed journal [] old (entry_now old t) (in_time_at s journal old h takes) refl

-- it came in
module _ (s : ScenarioOf) (journal : List Arrival) (old new : SessionOf) (h : IsLive s (run_with old journal)) (on : GoesOn old new) (t : Taken)
    (takes : takes_arrivals (turn_of old) ≡ true) where
  abbrev a : Arrival
  a = entry_now old t

  abbrev grown : List Arrival
  grown = with_entry journal old t

  more : StandsInRun s s.seed grown (a ∷ []) old
  more = stands_more s journal old h t takes

  pub arrival_written : {T : Type 0} (value : ℤ) (b c : SinkOf) (answer : Result T RunFault) → value ≡ t.item.value → old.units ≤ new.units
      → new.units ≤ old.units + 1
      → Writes is_write b c answer (if nat_lt old.units new.units then line_text s.port_names (line.Arrive old.parts.processed value t.item.port) else [])
      → WritesOn s (run_with old journal) (run_with new grown) b c answer
  arrival_written value b c answer same from most written =
      on_by s (run_with old journal) (run_with new grown) b c answer _ written
      (last_arrival_text s s.seed grown a old new more on takes refl value same from most
      ∙ ap (λ l. l ++ (if nat_lt old.units new.units then line_text s.port_names (line.Arrive old.parts.processed value a.port) else []))
      (text_added s s.seed journal [] old a (in_time_at s journal old h takes) refl))

  pub arrival_live : (value : ℤ) → value ≡ t.item.value → is_valued a ≡ true → new.units ≤ old.limit → IsSettled new
      → (old.units < old.limit → new.units ≡ old.units + 1) → (old.units < old.limit → new.refused ≡ false)
      → (old.units ≡ old.limit → new ≡ record old { refused = true })
      → ((u : State Script) → IsAt old u → old.units < old.limit → IsAt new (arrive (plan_of script_body old.parts) t.item.port value u))
      → IsLive s (run_with new grown)
  arrival_live value same in_bits within settled units none_refused refused arrives = by (nat_lt old.units old.limit) refl
    where
      over_where : new.refused ≡ true → takes_arrivals (turn_of new) ≡ false
      over_where yes_refused = rw yes_refused refl

      by : (b : Bool) → nat_lt old.units old.limit ≡ b → IsLive s (run_with new grown)
      by true is =
          let below : old.units < old.limit = grind (arith, nat_tests) in
          let u = state_at s grown old in
          let came : IsAt new (arrive (plan_of script_body old.parts) a.port a.value u) =
          subst (λ v. IsAt new (arrive (plan_of script_body old.parts) a.port v u)) same (arrives u more.at below) in
          let stands = after_last_arrival s s.seed grown a old new more on takes refl (units below) (none_refused below) came in
          let later = subst (λ n. u.processed ≤ (course_after (run_of s s.seed grown) n).state.processed) (sym (units below))
          (processed_later (run_of s s.seed grown) old.units 1) in
          let on_time : old.parts.processed ≤ new.parts.processed = omega (arith, later, more.at.stands.processed, stands.at.stands.processed) in
          record {
            too_late = [];
            stands = stands;
            in_time = λ _. refl;
            settled = settled;
            within = omega (arith, within, on.limit);
            falls = falls_on s journal old h t;
            by_now = next_all journal new.parts.processed a on_time (later_all journal old.parts.processed new.parts.processed on_time h.by_now);
            values = valued s journal old h t in_bits;
          }
      by false is =
          let spent : old.units ≡ old.limit = grind (arith, nat_tests, h.within) in
          let same_run : new.parts.processed ≡ old.parts.processed = ap (λ x. x.parts.processed) (refused spent) in
          let is_refused : new.refused ≡ true = ap (λ x. x.refused) (refused spent) in
          record {
            too_late = a ∷ [];
            stands = after_last_refusal s s.seed grown a old new more on takes refl spent (refused spent);
            in_time = λ again. absurd (false≢true (sym (over_where is_refused) ∙ again));
            settled = settled;
            within = omega (arith, within, on.limit);
            falls = falls_on s journal old h t;
            by_now = next_all journal new.parts.processed a (omega (arith, same_run))
                (later_all journal old.parts.processed new.parts.processed (omega (arith, same_run)) h.by_now);
            values = valued s journal old h t in_bits;
          }

-- ---- a post that came, in the words of the call that lets it in

pub record HasCome (s : ScenarioOf) (journal : List Arrival) (old : SessionOf) (self : LiveOf) (t : Taken) (entry : Arrival)
    (grown : List Arrival) : Type 0 where
  pub view : run_with old journal ≡ self
  pub live : IsLive s self
  pub entry_is : entry ≡ entry_now old t
  pub pushed : grown ≡ journal ++ entry ∷ []

pub has_come : (s : ScenarioOf) (journal : List Arrival) (old : SessionOf) (self : LiveOf) (t : Taken) (entry : Arrival) (n : ℕ) (grown : List Arrival)
    → run_with old journal ≡ self → IsLive s self → entry ≡ arrival_of n t → n ≡ old.parts.processed → grown ≡ journal ++ entry ∷ []
    → HasCome s journal old self t entry grown
has_come s journal old self t entry n grown view live entry_is now pushed =
    record { view = view; live = live; entry_is = entry_is ∙ ap (λ m. arrival_of m t) now; pushed = pushed }

module _ {s : ScenarioOf} {journal : List Arrival} {old : SessionOf} {self : LiveOf} {t : Taken} {entry : Arrival} {grown : List Arrival}
    (h : HasCome s journal old self t entry grown) where
  here : IsLive s (run_with old journal)
  here = subst (IsLive s) (sym h.view) h.live

  grown_is : grown ≡ with_entry journal old t
  grown_is = h.pushed ∙ ap (λ x. journal ++ x ∷ []) h.entry_is

  pub came_at : IsAt old (state_at s journal old)
  came_at = here.stands.at

  pub came_falls : IsTrue (never_falls grown)
  came_falls = subst (λ l. IsTrue (never_falls l)) (sym grown_is) (falls_on s journal old here t)

  -- too late
  pub late_live : FitsSigned w64 t.item.value → takes_arrivals (turn_of old) ≡ false → IsLive s (run_with old grown)
  late_live fits over = subst (λ l. IsLive s (run_with old l)) (sym grown_is) (over_live s journal old here t (in_64_bits t.item.value fits) over)

  pub late_written : (sink : SinkOf) → WritesOn {T = Unit {0}} s self (run_with old grown) sink sink (Ok tt)
  late_written sink =
      subst (λ x. WritesOn {T = Unit {0}} s x (run_with old grown) sink sink (Ok tt)) h.view
      (on_same s (run_with old journal) (run_with old grown) sink (ap (λ l. text_so_far s (run_with old l)) grown_is ∙ over_text s journal old here t) (tt {0}))

  -- in time
  module _ (new : SessionOf) (on : GoesOn old new) (takes : takes_arrivals (turn_of old) ≡ true) (fits : FitsSigned w64 t.item.value) where
    abbrev value : ℤ
    value = to_z w64 (of_z w64 entry.value)

    value_is : value ≡ t.item.value
    value_is = ap (λ (a : Arrival). to_z w64 (of_z w64 a.value)) h.entry_is ∙ to_z-of_z w64 t.item.value fits

    pub came_live : new.units ≤ old.limit → IsSettled new → (old.units < old.limit → new.units ≡ old.units + 1) → (old.units < old.limit → new.refused ≡ false)
        → (old.units ≡ old.limit → new ≡ record old { refused = true })
        → ((u : State Script) → IsAt old u → old.units < old.limit → IsAt new (arrive (plan_of script_body old.parts) entry.port value u))
        → IsLive s (run_with new grown)
    came_live within settled units none_refused refused arrives =
        subst (λ l. IsLive s (run_with new l)) (sym grown_is)
        (arrival_live s journal old new here on t takes value value_is (in_64_bits t.item.value fits) within settled units none_refused refused
        (subst (λ (a : Arrival). (u : State Script) → IsAt old u → old.units < old.limit → IsAt new (arrive (plan_of script_body old.parts) a.port value u))
        h.entry_is arrives))

    pub came_written : {T : Type 0} (b c : SinkOf) (answer : Result T RunFault) → old.units ≤ new.units → new.units ≤ old.units + 1
        → Writes is_write b c answer (if nat_lt old.units new.units then line_text s.port_names (line.Arrive old.parts.processed value entry.port) else [])
        → WritesOn s self (run_with new grown) b c answer
    came_written b c answer from most written =
        subst (λ x. WritesOn s x (run_with new grown) b c answer) h.view
        (subst (λ l. WritesOn s (run_with old journal) (run_with new l) b c answer) (sym grown_is)
        (arrival_written s journal old new here on t takes value b c answer value_is from most
        (subst (λ (a : Arrival). Writes is_write b c answer (if nat_lt old.units new.units then
        line_text s.port_names (line.Arrive old.parts.processed value a.port) else [])) h.entry_is written)))
