-- The words in which it is said that what a later unit may come back to is kept. (Kept events are this project's own.)
use Rattle.std.specs.Prelude.{Bool, ◌||◌, ◌≤◌, ◌≡◌, ℕ, List, Some, true, false, All, IsTrue}
use Rattle.std.specs.List.{AllPass, list_any}
use Rattle.sim_types.specs.declared.event.EventId.{EventId}
use Rattle.sim_types.specs.declared.event.ProcId.{ProcId}
use Rattle.sim_types.specs.declared.event.Callback.{Callback}
use Rattle.sim_types.specs.declared.event.Callback.TheVariants as callback
use Rattle.sim_types.specs.declared.event.Signal.{Signal}
use Rattle.sim_types.specs.declared.event.Signal.TheVariants as signal
use Rattle.sim_types.specs.declared.op.Op.{Op}
use Rattle.sim_types.specs.declared.setup.Class.TheVariants as class
use Rattle.sim_machine.specs.State.{ProcessOf, Control, Active, Over, State, Plan}
use Rattle.sim_machine.specs.Events.{is_same}
use Rattle.sim_machine.specs.Users.{users}
use Rattle.sim_machine.specs.Conditions.{members_of}
use Rattle.sim_machine.specs.Processes.{event_of, process_at}
use Rattle.sim_machine.specs.Tellings.{Telling, is_class}
use Rattle.sim_machine.specs.Standing.{left_of}
use Rattle.sim_machine.specs.KeptEvents.{is_in_process, is_kept}
use Rattle.sim_machine.specs.Bodies.{BodyOf}
use Rattle.sim_machine.specs.BodyLaw.{IsLawfulPoll}
use Rattle.sim_lawful.specs.LawfulRuns.{IsPlanOf, LawfulAt}
use Rattle.sim_machine_law.specs.NamedEvents.{events_named}

-- whether the run is over
abbrev pub is_over : Control → Bool
is_over (Over why e left) = true
is_over _ = false

-- whether the event that a callback names is kept, if it names one; a process is named by its event
abbrev pub names_kept : {B : Type 0} → ℕ → Telling B → State B → Callback → Bool
names_kept named tell s (callback.Resume p) = is_kept named tell s (event_of p)
names_kept named tell s (callback.Check cond) = is_kept named tell s cond
names_kept named tell s (callback.Build cond) = is_kept named tell s cond
names_kept named tell s (callback.Trigger y) = is_kept named tell s y
names_kept named tell s _ = true

-- the active process asks for this operation, in a poll that keeps the law of bodies
pub record IsAsked {B Code : Type 0} (body : BodyOf B Code) (code : Code) (s : State B) (o : Op) : Type 0 where
  pub event : EventId
  pub left : List Callback
  pub id : ProcId
  pub told : Signal
  pub active : s.control ≡ Active event left id told
  pub process : ProcessOf B
  pub found : process_at id s ≡ Some process
  pub after : B
  pub poll : IsLawfulPoll (body.facts code) (body.tell code) process.body told o after

-- all that follows is said of the states of a plan, for bodies of this kind that share this code
module _ {B Code : Type 0} (body : BodyOf B Code) (code : Code) where
  -- whether the event is kept
  abbrev pub keeps : Plan B → State B → EventId → Bool
  keeps g s e = is_kept g.setup.events (body.tell code) s e

  -- whether the event that a callback names is kept
  abbrev pub keeps_named : Plan B → State B → Callback → Bool
  keeps_named g s x = names_kept g.setup.events (body.tell code) s x

  -- this holds in each lawful state
  abbrev pub InLawful : (Plan B → State B → Type 0) → Type 0
  InLawful P = (g : Plan B) (s : State B) → LawfulAt body code g s → P g s

  -- the events of all entries of the agenda are kept
  abbrev pub KeepsEntries : Plan B → State B → Type 0
  KeepsEntries g s = AllPass (λ x. keeps g s x.event) s.facilities.calendar.agenda

  -- the event that the active process is told of, where it was just made
  abbrev pub KeepsTold : Plan B → State B → Type 0
  KeepsTold g s =
      (f : EventId) (left : List Callback) (p : ProcId) (e : EventId)
      → s.control ≡ Active f left p (signal.Made e) → IsTrue (keeps g s e)

  -- the events of all that wait at resources
  abbrev pub KeepsWaiters : Plan B → State B → Type 0
  KeepsWaiters g s = AllPass (λ w. keeps g s w.event) s.facilities.waiters

  -- the requests of all users
  abbrev pub KeepsUsers : Plan B → State B → Type 0
  KeepsUsers g s = (res : ℕ) → AllPass (λ u. keeps g s u.request) (users res s.facilities.ledger)

  -- the requests of all open scopes
  abbrev pub KeepsScopes : Plan B → State B → Type 0
  KeepsScopes g s = AllPass (λ x. keeps g s x.request) s.scopes

  -- the events that live processes trigger when they end
  abbrev pub KeepsProcesses : Plan B → State B → Type 0
  KeepsProcesses g s = AllPass (λ x. keeps g s (event_of x.id)) s.processes

  -- those that they wait for
  abbrev pub KeepsTargets : Plan B → State B → Type 0
  KeepsTargets g s = AllPass (λ x. keeps g s x.target) s.processes

  -- those that they hold in places
  abbrev pub KeepsPlaces : Plan B → State B → Type 0
  KeepsPlaces g s =
      All (λ x. AllPass (λ y. is_class y.class class.Number || keeps g s y.event) ((body.tell code).places x.body))
      s.processes

  -- the named ones, and event 0
  abbrev pub KeepsNamed : Plan B → State B → Type 0
  KeepsNamed g s = (e : EventId) → e.0 ≤ g.setup.events → IsTrue (keeps g s e)

  -- the event that is being processed
  abbrev pub KeepsProcessed : Plan B → State B → Type 0
  KeepsProcessed g s = (e : EventId) → IsTrue (is_in_process s.control e) → IsTrue (keeps g s e)

  -- the members of a kept condition
  abbrev pub KeepsMembers : Plan B → State B → Type 0
  KeepsMembers g s =
      (cond e : EventId)
      → IsTrue (list_any (is_same e) (members_of s.facilities.calendar cond)) → IsTrue (keeps g s cond) → IsTrue (keeps g s e)

  -- until the run is over: what registered callbacks name
  abbrev pub KeepsRegistered : Plan B → State B → Type 0
  KeepsRegistered g s =
      is_over s.control ≡ false → AllPass (λ r. keeps_named g s r.callback) s.facilities.calendar.registered

  -- and what callbacks name that are still to call
  abbrev pub KeepsLeft : Plan B → State B → Type 0
  KeepsLeft g s = is_over s.control ≡ false → AllPass (keeps_named g s) (left_of s.control)

  -- what the operation names that a process asks for
  abbrev pub KeepsAsked : Plan B → State B → Type 0
  KeepsAsked g s =
      IsPlanOf body code g
      → (o : Op) → IsAsked body code s o → AllPass (keeps g s) (events_named (body.facts code) o)
