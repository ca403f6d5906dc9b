-- What the code does where a kernel is opened.
use Rattle.std.specs.Prelude.{◌≡◌, ◌<◌, ◌+◌, ◌^◌, ◌≤ℤ◌, IsFalse, ℕ, ℤ, pos, [], List, Option, length, map, slice_index_or, All}
use Rattle.sim_types.specs.declared.event.EventId.{EventId}
use Rattle.sim_types.specs.declared.event.ProcId.{ProcId}
use Rattle.sim_types.specs.declared.setup.Until.{Until}
use Rattle.sim_types.specs.declared.setup.Until.TheVariants as until
use Rattle.sim_happen_model.specs.TableOf.{Kept, IsKept, kept_at}
use Rattle.sim_machine.specs.Processes.{make_events_of_process}
use Rattle.sim_machine.specs.Runs.{set_stop}
use Rattle.sim_machine.specs.Tellings.{CodeFacts}
use Rattle.sim_machine_law.specs.NamedEvents.{arguments_name}
use Rattle.sim_happen_model.specs.HappenOf.{HappenOf, unheld_event}
use Rattle.sim_happen_model.specs.Shows.{Turns}
use Rattle.sim_shared_model.specs.Making.{unheld_events}
use Rattle.sim_steps_model.specs.PartsOf.{PartsOf, with_happen}
use Rattle.sim_steps_model.specs.StandsFor.{process_of}
use Rattle.sim_steps_model.specs.Becoming.{IsOwing}
use Rattle.sim_machine.specs.Bodies.{BodyOf}

-- the number of the process that is made next, that of its event; and its init event
abbrev pub next_process : HappenOf → ProcId
next_process h = record { 0 = length h.events }

abbrev pub next_init : HappenOf → EventId
next_init h = record { 0 = length h.events + 1 }

-- two events more, which nobody holds
abbrev pub two_unheld : List (Option ℕ) → List (Option ℕ)
two_unheld holders = unheld_event (unheld_event holders)

-- the event of a process and its init event are made
abbrev pub MakesProcess : HappenOf → HappenOf → Type 0
MakesProcess old new = Turns make_events_of_process two_unheld old new

-- a run can be stopped so: at a time of a run, or by an event that is kept and not processed
abbrev pub CanStop : Until → HappenOf → Type 0
CanStop until.Never h = Unit {0}
CanStop (until.At time) h = (pos 0 ≤ℤ time) × (time ≤ℤ pos (2 ^ 62))
CanStop (until.Event e) h = IsKept h.events e × IsFalse (kept_at h.events e).event.processed

-- what is to stop a run is set, for which an event may be made
pub record SetsStop (x : Until) (old new : HappenOf) : Type 0 where
  pub made : ℕ
  pub turns : Turns (set_stop x) (unheld_events made) old new

-- all stays but what happens and the processes
abbrev pub KeepsButProcesses : {B Code : Type 0} → PartsOf B Code → PartsOf B Code → Type 0
KeepsButProcesses old new =
    new ≡ record (with_happen new.shared.happen old)
    { live = new.live; spare = new.spare; ready = new.ready }

-- what these arguments of a process of this kind name is kept, and so is event 0
pub record AreArgumentsKept (f : CodeFacts) (kind : ℕ) (args : List ℤ) (events : List (Option Kept)) : Type 0 where
  pub zero : IsKept events (record { 0 = 0 })
  pub named : All (IsKept events) (arguments_name (slice_index_or f.params kind []) args)

-- a process that is made holds so many events at most: its init event, and what stands in its places
abbrev pub most_begun : ℕ
most_begun = 65

-- a kernel in which only processes that run from the start were made, so that each has an event of its own already; its
-- accounts balance
pub record IsOpening {B Code : Type 0} (body : BodyOf B Code) (parts : PartsOf B Code) : Type 0 where
  pub time : parts.shared.happen.time ≡ pos 0
  pub older : All (λ x. x.id.0 < length parts.shared.happen.events) (map process_of parts.live)
  pub owing : IsOwing body [] parts
