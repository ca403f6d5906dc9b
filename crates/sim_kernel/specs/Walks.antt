-- A run by units: where a walk stands in it, and how its units lead on.
use Rattle.std.specs.Prelude.{◌≡◌, ◌++◌, ◌⊎◌, ℕ, List, [], None}
use Rattle.sim_types.specs.declared.setup.Arrival.{Arrival}
use Rattle.sim_machine.specs.Bodies.{BodyOf}
use Rattle.sim_machine.specs.Effect.{calendar}
use Rattle.sim_machine.specs.Runs.{HasEnded, end_of, opening_course}
use Rattle.sim_machine.specs.Units.{Course, IsUnit}
use Rattle.sim_procs.specs.QuietPolls.{QuietButLast}
use Rattle.sim_steps_model.specs.PartsOf.{PartsOf, plan_of}
use Rattle.sim_steps_model.specs.StandsFor.{StandsFor, LawfulOf, lines_of}
use Rattle.sim_steps_model.specs.Touching.{touched_places}
use Rattle.sim_steps_model.specs.declared.mode.Units.{Units}
use Rattle.sim_kernel.specs.Accounting.{HasAccounts}
use Rattle.sim_kernel.specs.KernelOf.{KernelOf, IsAsBefore}
use Rattle.sim_kernel.specs.Stepping.{AreMeasuredAlike}

-- a kernel that runs on a journal: what is left of that, and how many units it may make
pub record WalkOf (B Code : Type 0) : Type 0 where
  pub kernel : KernelOf B Code
  pub left : List Arrival
  pub limit : ℕ

-- the walk stands at the course m: its kernel stands for the state, which is lawful and for which its accounts are right, and
-- this is left of the journal
pub record StandsAt {B Code : Type 0} (body : BodyOf B Code) (w : WalkOf B Code) (m : Course B) : Type 0 where
  pub stands : StandsFor w.kernel.parts m.state
  pub lawful : LawfulOf body w.kernel.parts m.state
  pub accounts : HasAccounts body w.kernel.parts m.state
  pub left : m.left ≡ w.left

-- it stands at the beginning of a run on this journal
abbrev pub BeginsOn : {B Code : Type 0} → BodyOf B Code → List Arrival → WalkOf B Code → Type 0
BeginsOn body journal w = StandsAt body w (opening_course (plan_of body w.kernel.parts) journal)

-- the course where it stands has ended
abbrev pub StandsAtEnd : {B Code : Type 0} → BodyOf B Code → WalkOf B Code → Type 0
StandsAtEnd {B} body w = (m : Course B) → StandsAt body w m → HasEnded (plan_of body w.kernel.parts) m

-- it makes no more units: all are made, or its run has ended
abbrev pub IsOver : {B Code : Type 0} → BodyOf B Code → WalkOf B Code → Type 0
IsOver body w = (w.kernel.units ≡ w.limit) ⊎ StandsAtEnd body w

-- ---- units

-- a unit of the machine that the kernel was opened with leads from m, whose run has not ended, to n
pub record LeadsOn {B Code : Type 0} (body : BodyOf B Code) (parts : PartsOf B Code) (m n : Course B) : Type 0 where
  pub goes_on : end_of (plan_of body parts) m ≡ None
  pub unit : IsUnit (plan_of body parts) (body.turn parts.code) m n

-- a unit leads on; it writes no line, no time passes, and the same is measured at all resources
pub record LeadsQuietly {B Code : Type 0} (body : BodyOf B Code) (parts : PartsOf B Code) (m n : Course B) : Type 0 where
  pub leads : LeadsOn body parts m n
  pub lines : n.state.lines ≡ m.state.lines
  pub time : (calendar n.state).time ≡ (calendar m.state).time
  pub measures : AreMeasuredAlike parts.setup.resources [] m.state n.state

-- the last of these units leads from m to a course at which the new walk stands; it adds the line answered, and the same is
-- measured at all resources but those touched
pub record LeadsAtLast {B Code : Type 0} (body : BodyOf B Code) (old new : WalkOf B Code) (units : Units) (m : Course B) : Type 0 where
  pub later : Course B
  pub leads : LeadsOn body old.kernel.parts m later
  pub lines : later.state.lines ≡ m.state.lines ++ lines_of units.last
  pub measures : AreMeasuredAlike old.kernel.parts.setup.resources (touched_places units.touched new.kernel.listed)
      m.state later.state
  pub stands : StandsAt body new later

-- so many units in a row, at least one, from each course at which the old walk stood: all but the last are quiet
pub record Walks {B Code : Type 0} (body : BodyOf B Code) (units : Units) (old new : WalkOf B Code) : Type 0 where
  pub each : (m : Course B) → StandsAt body old m →
      QuietButLast (LeadsQuietly body old.kernel.parts) (LeadsAtLast body old new units) units.made m

-- ---- no unit

-- all stays but the room
pub record WaitsAsBefore {B Code : Type 0} (old new : WalkOf B Code) : Type 0 where
  pub kernel : IsAsBefore old.kernel new.kernel
  pub left : new.left ≡ old.left
  pub limit : new.limit ≡ old.limit
