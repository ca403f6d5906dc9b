-- Processes: how they begin, wait, end and are dropped (SimPy's "Process interaction").
use Rattle.std.specs.Prelude.{Bool, not, ℕ, ℤ, List, Option, [], ◌∷◌, ◌++◌, map, filter, Some, None, if◌then◌else◌, pos, find}
use Rattle.std.specs.List.{list_any}
use Rattle.sim_types.specs.declared.event.EventId.{EventId}
use Rattle.sim_types.specs.declared.event.ProcId.{ProcId}
use Rattle.sim_types.specs.declared.event.Outcome.{Outcome}
use Rattle.sim_types.specs.declared.event.Signal.{Signal}
use Rattle.sim_types.specs.declared.line.Line.{Line}
use Rattle.sim_types.specs.declared.event.EventKind.TheVariants as kind
use Rattle.sim_types.specs.declared.event.Outcome.TheVariants as outcome
use Rattle.sim_types.specs.declared.event.Callback.TheVariants as callback
use Rattle.sim_types.specs.declared.event.Signal.TheVariants as signal
use Rattle.sim_machine.specs.State.{Calendar, ProcessOf, Control, Calling, Active, State, Plan}
use Rattle.sim_machine.specs.Events.{is_process, without_first, event_at, is_processed, is_fail, next_event, defuse, register, unregister, is_resume_of}
use Rattle.sim_machine.specs.Triggering.{urgent, make, schedule, trigger}
use Rattle.sim_machine.specs.Scopes.{on_events, leave_all}

-- the event that a process triggers when it ends; it has the number of the process
abbrev pub event_of : ProcId → EventId
event_of p = record { 0 = p.0 }

-- the live process of this number
abbrev pub process_at : {B : Type 0} → ProcId → State B → Option (ProcessOf B)
process_at p s = find (λ x. is_process x.id p) s.processes

-- whether a process has not ended (SimPy's Process.is_alive)
abbrev pub is_alive : {B : Type 0} → ProcId → State B → Bool
is_alive p s = list_any (λ x. is_process x.id p) s.processes

-- one process is changed, all others stay
abbrev pub change_process : {B : Type 0} → ProcId → (ProcessOf B → ProcessOf B) → State B → State B
change_process p change s = record s { processes = map (λ x. if is_process x.id p then change x else x) s.processes }

-- the body of p is in a new state
abbrev pub with_body : {B : Type 0} → ProcId → B → State B → State B
with_body p b s = change_process p (λ x. record x { body = b }) s

-- a line more is written
abbrev pub write_line : {B : Type 0} → Line → State B → State B
write_line line s = record s { lines = s.lines ++ line ∷ [] }

-- the control once the active process goes on and is told this
abbrev pub told_more : Signal → Control → Control
told_more x (Active e left p y) = Active e left p x
told_more x c = c

-- the control once the active process waits or has ended
abbrev pub not_active : Control → Control
not_active (Active e left p y) = Calling e left
not_active c = c

-- the active process goes on, and is told this
abbrev pub tell : {B : Type 0} → Signal → State B → State B
tell x s = record s { control = told_more x s.control }

-- no process is active any more
abbrev pub rest : {B : Type 0} → State B → State B
rest s = record s { control = not_active s.control }

-- what a process is told of an event that turned out so; a processed event always has an outcome
abbrev pub signal_of : Option Outcome → Signal
signal_of None = signal.Value (pos 0)
signal_of (Some (outcome.Ok v)) = signal.Value v
signal_of (Some (outcome.Fail t)) = signal.Thrown t

-- a failure that a process is told of ends no run by itself
abbrev pub defuse_failed : EventId → Calendar → Calendar
defuse_failed e c = if is_fail (event_at c e).outcome then defuse e c else c

-- p waits for an event (SimPy's yield): at one that is processed it goes on at once, else it is resumed by it
abbrev pub wait : {B : Type 0} → EventId → ProcId → State B → State B
wait e p s =
    if is_processed s.facilities.calendar e
    then tell (signal_of (event_at s.facilities.calendar e).outcome) (on_events (defuse_failed e) s)
    else rest (change_process p (λ x. record x { target = e }) (on_events (register e (callback.Resume p)) s))

-- a process's event, and then its init event, which is urgent and resumes it
abbrev pub make_events_of_process : Calendar → Calendar
make_events_of_process c =
    let p = next_event c in
    let d = make kind.Process c in
    let init = next_event d in
    schedule init (outcome.Ok (pos 0)) urgent (pos 0) (register init (callback.Resume (record { 0 = p.0 })) (make kind.Init d))

-- a process of this kind is made, and is to begin now (SimPy's Process and Initialize)
abbrev pub make_process : {B : Type 0} → Plan B → ℕ → List ℤ → State B → State B
make_process g k args s =
    let c = s.facilities.calendar in
    let p : ProcId = record { 0 = (next_event c).0 } in
    on_events make_events_of_process (record s {
      processes = s.processes ++ record { id = p; body = g.start k args p; target = next_event (make kind.Process c) } ∷ [];
    })

-- p is no longer alive, and its event is triggered (SimPy's Process, once its generator has returned or raised)
abbrev pub end_process : {B : Type 0} → ProcId → Outcome → State B → State B
end_process p x s =
    on_events (trigger (event_of p) x) (record s { processes = filter (λ y. not (is_process y.id p)) s.processes })

-- what a process waits for (SimPy's Process.target); event 0 where there is no such process
abbrev pub target_of : {B : Type 0} → ProcId → Option (ProcessOf B) → EventId
target_of p None = record { 0 = 0 }
target_of p (Some x) = x.target

-- p no longer waits for its target; what it waited for stays as it is
abbrev pub stop_waiting : {B : Type 0} → ProcId → State B → State B
stop_waiting p s = on_events (unregister (target_of p (process_at p s)) (is_resume_of p)) s

-- the resumption of p is taken out of the callbacks still to call
abbrev pub strip_resume : ProcId → Control → Control
strip_resume p (Active e left q y) = Active e (without_first (is_resume_of p) left) q y
strip_resume p (Calling e left) = Calling e (without_first (is_resume_of p) left)
strip_resume p c = c

-- p ends at once: nothing is to resume it, its scopes are left from the innermost outwards, and its event succeeds
-- (this project's own: SimPy has no such call)
abbrev pub drop_process : {B : Type 0} → ProcId → ℤ → State B → State B
drop_process p value s =
    let t = stop_waiting p s in
    end_process p (outcome.Ok value) (leave_all p (record t { control = strip_resume p t.control }))
