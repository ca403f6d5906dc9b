-- Whole runs: the opening state, n units, the trace and its summary.
use Rattle.std.specs.Prelude.{ℕ, ℤ, List, Option, true, [], ◌∷◌, ◌++◌, length, Some, None, pos, ◌+ℤ◌, zero, suc, fold, ◌≡◌, ◌≢◌, ◌⊎◌, ◌≤◌, replicate, unwrap_or, is_none, if◌then◌else◌}
use Rattle.sim_types.specs.declared.event.Signal.{Signal}
use Rattle.sim_types.specs.declared.event.Entry.{Entry}
use Rattle.sim_types.specs.declared.line.End.{End}
use Rattle.sim_types.specs.declared.line.Line.{Line}
use Rattle.sim_types.specs.declared.event.EventKind.TheVariants as kind
use Rattle.sim_types.specs.declared.event.Outcome.TheVariants as outcome
use Rattle.sim_types.specs.declared.event.Callback.TheVariants as callback
use Rattle.sim_types.specs.declared.op.Op.{Op}
use Rattle.sim_types.specs.declared.line.Line.TheVariants as line
use Rattle.sim_types.specs.declared.line.End.TheVariants as end
use Rattle.sim_types.specs.declared.setup.Arrival.{Arrival}
use Rattle.sim_types.specs.declared.line.Summary.{Summary}
use Rattle.sim_types.specs.declared.setup.Until.{Until}
use Rattle.sim_types.specs.declared.setup.Until.TheVariants as until
use Rattle.sim_types.specs.declared.setup.Start.{Start}
use Rattle.sim_machine.specs.State.{EventOf, Calendar, Control, Idle, Over, State, Plan}
use Rattle.sim_machine.specs.Events.{pending_event, next_event, register}
use Rattle.sim_machine.specs.Triggering.{urgent, make, schedule}
use Rattle.sim_machine.specs.Scopes.{on_events}
use Rattle.sim_machine.specs.Processes.{make_process}
use Rattle.sim_machine.specs.Effect.{calendar}
use Rattle.sim_machine.specs.Steps.{Turn, TurnFunction}
use Rattle.sim_machine.specs.Units.{Course, IsUnit, unit_of}

-- event 0, which is processed and ok from the start, and stands for none (this project's own)
abbrev pub event_zero : EventOf
event_zero = record (pending_event kind.Plain) { outcome = Some (outcome.Ok (pos 0)); processed = true }

-- event 0 and the named events, before anything is scheduled
abbrev pub first_calendar : ℕ → Calendar
first_calendar named = record { time = pos 0; scheduled = 0; agenda = []; events = event_zero ∷ replicate named (pending_event kind.Plain); registered = [] }

-- the state before any process is made
abbrev pub blank_state : {B : Type 0} → Plan B → State B
blank_state g =
    record {
      facilities = record { calendar = first_calendar g.setup.events; waiters = []; ledger = [] };
      processed = 0;
      drawn = 0;
      scopes = [];
      processes = [];
      control = Idle;
      lines = [];
    }

-- a process that runs from the start is made
abbrev pub start_process : {B : Type 0} → Plan B → State B → Start → State B
start_process g s x = make_process g x.kind x.args s

-- what is to stop the run: an urgent event of its own at a time, or a named event (SimPy's Environment.run until)
abbrev pub set_stop : Until → Calendar → Calendar
set_stop until.Never c = c
set_stop (until.At time) c =
    let e = next_event c in schedule e (outcome.Ok (pos 0)) urgent time (register e callback.Stop (make kind.Stop c))
set_stop (until.Event e) c = register e callback.Stop c

-- the state that a run begins with: named events, then processes, then what stops it, numbered in this order
abbrev pub opening : {B : Type 0} → Plan B → State B
opening g = on_events (set_stop g.setup.until) (fold (start_process g) (blank_state g) g.setup.starts)

-- the opening state with the whole journal
abbrev pub opening_course : {B : Type 0} → Plan B → List Arrival → Course B
opening_course g journal = record { state = opening g; left = journal }

-- how a run ends for want of events: one that was to stop at an event has starved (SimPy's RuntimeError)
abbrev pub empty_end : Until → End
empty_end (until.Event e) = end.Starved
empty_end _ = end.Empty

-- an idle machine with no entry and no arrival has ended, and so has one whose control says so
abbrev pub end_by : {B : Type 0} → Plan B → Control → List Entry → List Arrival → Option End
end_by g Idle [] [] = Some (empty_end g.setup.until)
end_by g (Over why e calls) agenda left = Some why
end_by g _ agenda left = None

-- how the run has ended, if it has
abbrev pub end_of : {B : Type 0} → Plan B → Course B → Option End
end_of g m = end_by g m.state.control (calendar m.state).agenda m.left

-- n units, the last step outside
abbrev pub Runs : {B : Type 0} → Plan B → Turn B → ℕ → Course B → Course B → Type 0
Runs g turn zero m n = m ≡ n
Runs g turn (suc k) m n = (l : Course _) × Runs g turn k m l × IsUnit g turn l n

-- whether the run has ended by now
abbrev pub HasEnded : {B : Type 0} → Plan B → Course B → Type 0
HasEnded g m = end_of g m ≢ None

-- n is what a run comes to: after so many units, or after fewer that end it
pub record IsRun {B : Type 0} (g : Plan B) (turn : B → ℤ → Signal → Op → B → Type 0) (journal : List Arrival) (limit : ℕ) (n : Course B) : Type 0 where
  pub units : ℕ
  pub within : units ≤ limit
  pub ran : Runs g turn units (opening_course g journal) n
  pub whole : (units ≡ limit) ⊎ HasEnded g n

-- the same for a body that leaves nothing open
abbrev pub after_units : {B : Type 0} → Plan B → TurnFunction B → ℕ → Course B → Course B
after_units g turn zero m = m
after_units g turn (suc k) m = unit_of g turn (after_units g turn k m)

-- the run of so many units at most
abbrev pub run : {B : Type 0} → Plan B → TurnFunction B → List Arrival → ℕ → Course B
run g turn journal limit = after_units g turn limit (opening_course g journal)

-- how many units are made of so many at most: each is made before which the run has not ended
abbrev pub units_made : {B : Type 0} → Plan B → TurnFunction B → List Arrival → ℕ → ℕ
units_made g turn journal zero = zero
units_made g turn journal (suc k) =
    if is_none (end_of g (run g turn journal k)) then suc (units_made g turn journal k) else units_made g turn journal k

-- how a run is said to have ended; one that has not was stopped by its limit
abbrev pub end_word : {B : Type 0} → Plan B → Course B → End
end_word g m = unwrap_or (end_of g m) end.Limit

-- the lines that a run wrote, and one on its end
abbrev pub trace_of : {B : Type 0} → Plan B → Course B → List Line
trace_of g m = m.state.lines ++ line.Finish (calendar m.state).time m.state.processed (end_word g m) ∷ []

-- the values of the `log` lines
abbrev pub logged : List Line → List ℤ
logged [] = []
logged (line.Log time p value ∷ lines) = value ∷ logged lines
logged (_ ∷ lines) = logged lines

-- the sum of whole numbers
abbrev pub total : List ℤ → ℤ
total [] = pos 0
total (v ∷ vs) = v +ℤ total vs

-- what a run comes to: its end, and the number and sum of what was logged
abbrev pub summary_of : {B : Type 0} → Plan B → Course B → Summary
summary_of g m =
    record {
      end = end_word g m;
      time = (calendar m.state).time;
      processed = m.state.processed;
      logs = length (logged m.state.lines);
      total = total (logged m.state.lines);
    }
