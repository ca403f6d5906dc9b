-- What contracts see of a kernel.
use Rattle.std.specs.Prelude.{◌≡◌, ◌≤◌, ℕ, Bool, true, false, List, [], Option, Some, None, IfSome, IsTrue}
use Rattle.rand_pcg.specs.Lcg.{Lcg}
use Rattle.sim_types.specs.declared.event.EventId.{EventId}
use Rattle.sim_types.specs.declared.event.ProcId.{ProcId}
use Rattle.sim_types.specs.declared.event.Signal.{Signal}
use Rattle.sim_types.specs.declared.event.Callback.{Callback}
use Rattle.sim_types.specs.declared.event.Callback.TheVariants as callback
use Rattle.sim_types.specs.declared.setup.Setup.{Setup}
use Rattle.sim_machine.specs.State.{Control, Idle, Calling, Active, Over, Plan}
use Rattle.sim_machine.specs.RandomWords.{word_of}
use Rattle.sim_machine.specs.Users.{first_of_list}
use Rattle.sim_machine.specs.Bodies.{BodyOf, start_of}
use Rattle.sim_procs.specs.RecordOf.{RecordOf, ScopesOf}
use Rattle.sim_happen_model.specs.HappenOf.{HappenOf}
use Rattle.sim_shared_model.specs.SharedOf.{SharedOf, IsSameButRoom}
use Rattle.sim_steps_model.specs.declared.mode.Mode.{Mode}
use Rattle.sim_steps_model.specs.declared.mode.Mode.TheVariants as mode

-- the control of the machine, by what the kernel is doing and the callbacks that are left to call
abbrev pub control_of : Mode → List Callback → Control
control_of mode.Idle left = Idle
control_of (mode.Calling event) left = Calling event left
control_of (mode.Active event process told) left = Active event left process told
control_of (mode.Over why event) left = Over why event left

-- where nothing is being done, no callbacks are left to call
abbrev pub NoneLeftIdle : Mode → List Callback → Type 0
NoneLeftIdle mode.Idle left = left ≡ []
NoneLeftIdle (mode.Calling event) left = Unit {0}
NoneLeftIdle (mode.Active event process told) left = Unit {0}
NoneLeftIdle (mode.Over why event) left = Unit {0}

-- what the process that is made next has already: its body, yet to be filled, and the memory for its scopes
pub record ReadyOf (B : Type 0) : Type 0 where
  pub body : B
  pub scopes : ScopesOf

-- the body is for the code, no scope is open, and as many find room as may be open
pub record IsReady {B : Type 0} (is_for : B → Type 0) (most_open : ℕ) (x : ReadyOf B) : Type 0 where
  pub body : is_for x.body
  pub scopes : x.scopes ≡ record { scopes = []; room = most_open }

-- what holds of the parts of every kernel: where nothing is being done no callbacks are left to call, the resources and
-- the kinds that the ports start are those of its setup, as many scopes find room in each process as its code may open,
-- and what the next process has already is ready for the code
pub record AreSoundParts {B : Type 0}
    (mode : Mode) (shared : SharedOf) (kinds : List ℕ) (setup : Setup)
    (is_for : B → Type 0) (most_open room : ℕ) (next : Option (ReadyOf B)) : Type 0 where
  pub none_left : NoneLeftIdle mode shared.happen.left
  pub resources : shared.setup ≡ setup.resources
  pub ports : kinds ≡ setup.ports
  pub scopes : room ≡ most_open
  pub ready : IfSome next (IsReady is_for most_open)

-- a kernel: time, what happens in it and the resources, its lists and numbers, what it was opened with, and for how many
-- more live processes there is room, and whether all that the process made next takes is there already
pub record PartsOf (B Code : Type 0) : Type 0 where
  pub shared : SharedOf
  pub processed : ℕ
  -- the generator of the random words, as far as they were drawn
  pub generator : Lcg
  pub live : List (RecordOf B)
  pub control : Control
  pub code : Code
  pub setup : Setup
  pub seed : ℕ
  pub spare : ℕ
  pub ready : Bool

-- the callbacks of this event are being called
abbrev pub IsCalling : EventId → Control → Type 0
IsCalling event (Calling e left) = e ≡ event
IsCalling event _ = ⊥

-- this process runs within such a call, and is to be told this
abbrev pub IsRunning : EventId → ProcId → Signal → Control → Type 0
IsRunning event process told (Active e left p x) = (e ≡ event) × (p ≡ process) × (x ≡ told)
IsRunning event process told _ = ⊥

-- this process runs within the call of a callback of the event
abbrev pub IsRunningIn : EventId → ProcId → Control → Type 0
IsRunningIn event process (Active e left p x) = (e ≡ event) × (p ≡ process)
IsRunningIn event process _ = ⊥

-- some process runs within such a call
abbrev pub IsRunningAt : EventId → Control → Type 0
IsRunningAt event (Active e left p x) = e ≡ event
IsRunningAt event _ = ⊥

-- two kernels were opened with the same code, setup and seed
pub record IsOpenedAs {B Code : Type 0} (old new : PartsOf B Code) : Type 0 where
  pub code : new.code ≡ old.code
  pub setup : new.setup ≡ old.setup
  pub seed : new.seed ≡ old.seed

-- this is what happens, and all else stays
abbrev pub with_happen : {B Code : Type 0} → HappenOf → PartsOf B Code → PartsOf B Code
with_happen happen parts = record parts { shared = record parts.shared { happen = happen } }

-- all stays but what happens
abbrev pub KeepsButHappen : {B Code : Type 0} → PartsOf B Code → PartsOf B Code → Type 0
KeepsButHappen old new = new ≡ with_happen new.shared.happen old

-- the resources stay as they are
abbrev pub KeepsResources : {B Code : Type 0} → PartsOf B Code → PartsOf B Code → Type 0
KeepsResources old new = new.shared.resources ≡ old.shared.resources

-- all stays but the room
pub record KeepsButRoom {B Code : Type 0} (old new : PartsOf B Code) : Type 0 where
  pub shared : IsSameButRoom old.shared new.shared
  pub others : new ≡ record old { shared = new.shared; spare = new.spare; ready = new.ready }

-- room for all that one unit takes: for so many events, each of which may be a condition, for so many callbacks, for one
-- more to wait at each resource, and for one more process, with all that it takes
pub record HasUnitRoom {B Code : Type 0} (parts : PartsOf B Code) : Type 0 where
  pub events : 40 ≤ parts.shared.happen.spare.events
  pub callbacks : 64 ≤ parts.shared.happen.spare.callbacks
  pub conditions : 40 ≤ parts.shared.happen.spare.conditions
  pub places : parts.shared.used ≡ None
  pub processes : 1 ≤ parts.spare
  pub ready : IsTrue parts.ready

-- whether the callback that comes next may take room, if one comes: where the requests at a resource are tried, one may
-- interrupt who uses a slot, which makes an event
abbrev pub call_takes_room : Option Callback → Bool
call_takes_room (Some (callback.TryPut res)) = true
call_takes_room _ = false

-- whether the next unit may take room: a process that runs may ask for what takes some, and no other unit takes any
-- but such a callback
abbrev pub next_takes_room : Control → Bool
next_takes_room Idle = false
next_takes_room (Calling event left) = call_takes_room (first_of_list left)
next_takes_room (Active event left process told) = true
next_takes_room (Over why event left) = false

-- room for all that the next unit takes, which is none where it takes no room
abbrev pub HasRoomForNext : {B Code : Type 0} → PartsOf B Code → Type 0
HasRoomForNext parts = IsTrue (next_takes_room parts.control) → HasUnitRoom parts

-- the plan of the machine that a kernel was opened with
abbrev pub plan_of : {B Code : Type 0} → BodyOf B Code → PartsOf B Code → Plan B
plan_of body parts = record {
  setup = parts.setup;
  word = word_of parts.seed;
  start = start_of body parts.code;
}
