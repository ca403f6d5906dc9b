-- One step: the pop of an event, the call of one callback, one operation of a process, or the settling of an event
-- (SimPy's Environment.step, which this project cuts into pieces).
use Rattle.std.specs.Prelude.{Bool, ◌&&◌, not, ℤ, List, Option, [], ◌∷◌, Some, None, if◌then◌else◌, ◌+◌, pos, ◌≡◌}
use Rattle.sim_types.specs.declared.event.EventId.{EventId}
use Rattle.sim_types.specs.declared.event.ProcId.{ProcId}
use Rattle.sim_types.specs.declared.event.EventKind.{EventKind}
use Rattle.sim_types.specs.declared.event.Outcome.{Outcome}
use Rattle.sim_types.specs.declared.event.Callback.{Callback}
use Rattle.sim_types.specs.declared.event.Signal.{Signal}
use Rattle.sim_types.specs.declared.event.Entry.{Entry}
use Rattle.sim_types.specs.declared.line.End.{End}
use Rattle.sim_types.specs.declared.line.Line.{Line}
use Rattle.sim_types.specs.declared.event.EventKind.TheVariants as kind
use Rattle.sim_types.specs.declared.event.Outcome.TheVariants as outcome
use Rattle.sim_types.specs.declared.event.Callback.TheVariants as callback
use Rattle.sim_types.specs.declared.event.Signal.TheVariants as signal
use Rattle.sim_types.specs.declared.op.Op.{Op}
use Rattle.sim_types.specs.declared.line.Line.TheVariants as line
use Rattle.sim_types.specs.declared.line.End.TheVariants as end
use Rattle.sim_machine.specs.State.{Calendar, ProcessOf, Control, Idle, Calling, Active, Over, State, Plan}
use Rattle.sim_machine.specs.Events.{event_at, is_fail, callbacks_of}
use Rattle.sim_machine.specs.Agenda.{due, popped}
use Rattle.sim_machine.specs.Conditions.{check, build}
use Rattle.sim_machine.specs.Trying.{try_put, try_get}
use Rattle.sim_machine.specs.Scopes.{on_facilities, on_events}
use Rattle.sim_machine.specs.Processes.{process_at, is_alive, with_body, write_line, signal_of, defuse_failed, stop_waiting}
use Rattle.sim_machine.specs.Effect.{calendar, pass_on, effect}

-- what a body does when it is polled, as a relation: its state, the time, what it is told, the operation that it asks
-- for, and its new state (in place of SimPy's generator)
abbrev pub Turn : Type 0 → Type 1
Turn B = B → ℤ → Signal → Op → B → Type 0

-- the same as a function, for bodies that leave nothing open
abbrev pub TurnFunction : Type 0 → Type 0
TurnFunction B = B → ℤ → Signal → Op × B

-- the control is now this
abbrev pub control_to : {B : Type 0} → Control → State B → State B
control_to control s = record s { control = control }

-- the outcome of a popped event, which always has one
abbrev pub outcome_or_zero : Option Outcome → Outcome
outcome_or_zero None = outcome.Ok (pos 0)
outcome_or_zero (Some x) = x

-- the line of an event that is popped
abbrev pub line_of : Entry → Calendar → Line
line_of x c = line.Event x.key.time x.key.number x.event (outcome_or_zero (event_at c x.event).outcome) x.key.priority (event_at c x.event).kind

-- the entry that is due is popped, and its event's callbacks are to be called
abbrev pub pop_entry : {B : Type 0} → Entry → State B → State B
pop_entry x s =
    write_line (line_of x (calendar s)) (on_events (popped x) (record s {
      processed = s.processed + 1;
      control = Calling x.event (callbacks_of x.event (calendar s));
    }))

-- what a process is told by the event that resumes it: an init event begins it
abbrev pub signal_by : EventKind → Option Outcome → Signal
signal_by kind.Init x = signal.Begin
signal_by _ x = signal_of x

-- p runs within the call of a callback of e, and a failure of e is defused (SimPy's Process)
abbrev pub resume : {B : Type 0} → EventId → List Callback → ProcId → State B → State B
resume e left p s =
    control_to (Active e left p (signal_by (event_at (calendar s) e).kind (event_at (calendar s) e).outcome)) (on_events (defuse_failed e) s)

-- an interruption comes: its process waits no longer for its target and is thrown the interruption; where it has ended
-- nothing happens (SimPy's Interruption)
abbrev pub strike : {B : Type 0} → EventId → List Callback → ProcId → State B → State B
strike e left p s = if is_alive p s then control_to (Active e left p (signal_of (event_at (calendar s) e).outcome)) (stop_waiting p s) else control_to (Calling e left) s

-- how a run ends that e stops: by a crash where e failed (SimPy's Environment.run)
abbrev pub end_at : {B : Type 0} → EventId → State B → End
end_at e s = if is_fail (event_at (calendar s) e).outcome then end.Crash else end.Until

-- a callback of e, which is being processed, is called, and these are left to call
abbrev pub call : {B : Type 0} → Plan B → EventId → Callback → List Callback → State B → State B
call g e (callback.Resume p) left s = resume e left p s
call g e (callback.Strike p) left s = strike e left p s
call g e (callback.Check cond) left s = control_to (Calling e left) (on_events (check cond e) s)
call g e (callback.Build cond) left s = control_to (Calling e left) (on_events (build cond) s)
call g e (callback.TryPut res) left s = control_to (Calling e left) (on_facilities (try_put g.setup.resources res) s)
call g e (callback.TryGet res) left s = control_to (Calling e left) (on_facilities (try_get g.setup.resources res) s)
call g e callback.Stop left s = control_to (Over (end_at e s) e left) s
call g e (callback.Trigger y) left s = control_to (Calling e left) (on_events (pass_on (event_at (calendar s) e).outcome y) s)

-- whether e failed and nobody defused it
abbrev pub is_crash : {B : Type 0} → EventId → State B → Bool
is_crash e s = is_fail (event_at (calendar s) e).outcome && not (event_at (calendar s) e).defused

-- all callbacks of e were called: a failure that nobody defused ends the run (SimPy's Environment.step raises it)
abbrev pub settle : {B : Type 0} → EventId → State B → State B
settle e s = control_to (if is_crash e s then Over end.Crash e [] else Idle) s

-- the active process p has asked for an operation, and its body is in this new state
abbrev pub polled : {B : Type 0} → Plan B → ProcId → Op → B → State B → State B
polled g p x b s = effect g p x (with_body p b s)

-- the first callback still to call is called; with none left the event is settled
abbrev pub call_or_settle : {B : Type 0} → Plan B → EventId → List Callback → State B → State B
call_or_settle g e [] s = settle e s
call_or_settle g e (x ∷ left) s = call g e x left s

-- the due entry is popped
pub record IsPop {B : Type 0} (s t : State B) : Type 0 where
  pub entry : Entry
  pub is_due : due (calendar s).agenda ≡ Some entry
  pub then_is : t ≡ pop_entry entry s

-- the active process p, which is told x, is polled, and what it asks for is done; its body's relation decides what that
-- may be
pub record IsPoll {B : Type 0} (g : Plan B) (turn : B → ℤ → Signal → Op → B → Type 0) (p : ProcId) (x : Signal) (s t : State B) : Type 0 where
  pub process : ProcessOf B
  pub found : process_at p s ≡ Some process
  pub asked : Op
  pub body : B
  pub turned : turn process.body (calendar s).time x asked body
  pub then_is : t ≡ polled g p asked body s

-- what comes next, by what is being done; after a run that is over nothing does
abbrev pub IsStepAt : {B : Type 0} → Plan B → Turn B → State B → State B → Control → Type 0
IsStepAt g turn s t Idle = IsPop s t
IsStepAt g turn s t (Calling e left) = t ≡ call_or_settle g e left s
IsStepAt g turn s t (Active e left p x) = IsPoll g turn p x s t
IsStepAt g turn s t (Over why e left) = ⊥

-- t is one step later than s
abbrev pub IsStep : {B : Type 0} → Plan B → Turn B → State B → State B → Type 0
IsStep g turn s t = IsStepAt g turn s t s.control

-- the same as a function, for bodies that leave nothing open; where no step is left the state stays
abbrev pub pop_if_any : {B : Type 0} → Option Entry → State B → State B
pop_if_any None s = s
pop_if_any (Some x) s = pop_entry x s

-- the poll of a process, where it is found
abbrev pub poll_if_any : {B : Type 0} → Plan B → TurnFunction B → ProcId → Signal → Option (ProcessOf B) → State B → State B
poll_if_any g turn p x None s = s
poll_if_any g turn p x (Some y) s = let r = turn y.body (calendar s).time x in polled g p r.0 r.1 s

-- the step that comes next, by what is being done
abbrev pub step_at : {B : Type 0} → Plan B → TurnFunction B → State B → Control → State B
step_at g turn s Idle = pop_if_any (due (calendar s).agenda) s
step_at g turn s (Calling e left) = call_or_settle g e left s
step_at g turn s (Active e left p x) = poll_if_any g turn p x (process_at p s) s
step_at g turn s (Over why e left) = s

-- the step after this state
abbrev pub step_of : {B : Type 0} → Plan B → TurnFunction B → State B → State B
step_of g turn s = step_at g turn s s.control
