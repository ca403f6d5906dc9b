-- Units in a row, in which the running process asks for nothing but in the last.
use Rattle.std.specs.Prelude.{◌≡◌, ℕ, suc, List, Some}
use Rattle.std.specs.Option.{option_map}
use Rattle.sim_types.specs.declared.event.EventId.{EventId}
use Rattle.sim_types.specs.declared.event.ProcId.{ProcId}
use Rattle.sim_types.specs.declared.event.Signal.{Signal}
use Rattle.sim_types.specs.declared.op.Op.{Op}
use Rattle.sim_machine.specs.State.{Control}
use Rattle.sim_machine.specs.Bodies.{BodyOf}
use Rattle.sim_machine.specs.Processes.{told_more}
use Rattle.sim_procs.specs.QuietPolls.{InARow, Polls, QuietButLast, told_at_last}
use Rattle.sim_procs.specs.RecordOf.{RecordOf, change_record, record_of}
use Rattle.sim_steps_model.specs.declared.mode.Rest.TheVariants as rest
use Rattle.sim_steps_model.specs.declared.mode.Unit.{Unit}
use Rattle.sim_steps_model.specs.declared.mode.Unit.TheVariants as unit
use Rattle.sim_steps_model.specs.Becoming.{Moves}
use Rattle.sim_steps_model.specs.PartsOf.{PartsOf, IsRunning}
use Rattle.sim_steps_model.specs.Polling.{AsksOwing, DoesAsked}
use Rattle.sim_steps_model.specs.Resting.{rest_in}
use Rattle.sim_steps_model.specs.StandsFor.{StandsForSome}

-- a unit in which the running process asks for nothing: nothing happens, no resource changes, and the process runs on
pub record MovesQuietly {B Code : Type 0} (body : BodyOf B Code) (old new : PartsOf B Code) : Type 0 where
  pub moves : Moves body old unit.Quiet new
  pub shared : new.shared ≡ old.shared
  pub busy : rest_in new ≡ rest.Busy

-- so many units in a row, at least one: all but the last are such, and the last answers this
abbrev pub MovesAtLast : {B Code : Type 0} → BodyOf B Code → ℕ → PartsOf B Code → Unit → PartsOf B Code → Type 0
MovesAtLast body n old answer new = QuietButLast (MovesQuietly body) (λ mid. Moves body mid answer new) n old

-- the body of a process is polled so many times in a row, told this in the first: it asks for nothing in all but the last, and
-- for this in the last, and is in a new state; the kernel stands where it was told what it was told last
pub record AsksAtLast {B Code : Type 0}
    (body : BodyOf B Code) (p : ProcId) (told : Signal) (times : ℕ) (old : PartsOf B Code) (asked : Op)
    (new : PartsOf B Code) : Type 0 where
  pub before : B
  pub later : B
  pub found : option_map (λ r. r.body) (record_of p old.live) ≡ Some before
  pub polls : Polls body old.code old.shared.happen.time told times before asked later
  pub others : new ≡ record old {
    live = change_record p (λ r. record r { body = later }) old.live;
    control = told_more (told_at_last times told) old.control;
  }

-- these are the live processes and this is being done, and all else stays
abbrev pub with_live : {B Code : Type 0} → List (RecordOf B) → Control → PartsOf B Code → PartsOf B Code
with_live live control parts = record parts { live = live; control = control }

-- where the kernel stands before the last of so many polls in a row, which are as many units but that one: the process runs,
-- and is to be told this
pub record BeforeLast {B Code : Type 0}
    (body : BodyOf B Code) (event : EventId) (p : ProcId) (times : ℕ) (old : PartsOf B Code) : Type 0 where
  pub fewer : ℕ
  pub one_more : times ≡ suc fewer
  pub live : List (RecordOf B)
  pub control : Control
  pub row : InARow (MovesQuietly body) fewer old (with_live live control old)
  pub stands : StandsForSome body (with_live live control old)
  pub told : Signal
  pub running : IsRunning event p told control

-- in the last poll it asks for this, and its places are held as they are then; what stood in the one that changed is to be
-- given back
pub record AsksOwingAtLast {B Code : Type 0}
    (body : BodyOf B Code) (event : EventId) (p : ProcId) (times : ℕ) (left : EventId) (old : PartsOf B Code)
    (asked : Op) (new : PartsOf B Code) : Type 0 where
  pub before : BeforeLast body event p times old
  pub last : AsksOwing body p before.told left (with_live before.live before.control old) asked new

-- and what it asks for is done, as the machine does it; that event is still to be given back
pub record DoesAskedAtLast {B Code : Type 0}
    (body : BodyOf B Code) (event : EventId) (p : ProcId) (times : ℕ) (left : EventId) (old : PartsOf B Code)
    (answer : Unit) (new : PartsOf B Code) : Type 0 where
  pub before : BeforeLast body event p times old
  pub last : DoesAsked body p left (with_live before.live before.control old) answer new
