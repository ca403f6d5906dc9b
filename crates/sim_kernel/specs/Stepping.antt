-- What it means that a kernel makes a unit in which nothing arrives.
use Rattle.std.specs.Prelude.{◌≡◌, ◌<◌, ◌++◌, false, ℕ, List, [], length}
use Rattle.sim_types.specs.declared.setup.Resource.{Resource}
use Rattle.sim_machine.specs.State.{State}
use Rattle.sim_machine.specs.Bodies.{BodyOf}
use Rattle.sim_machine.specs.Measures.{measure_at}
use Rattle.sim_procs.specs.QuietPolls.{QuietButLast}
use Rattle.sim_shared_model.specs.Measuring.{is_one_of}
use Rattle.sim_steps_model.specs.PartsOf.{PartsOf, IsOpenedAs}
use Rattle.sim_steps_model.specs.StandsFor.{StandsFor, LawfulOf, StepOf, lines_of}
use Rattle.sim_steps_model.specs.Resting.{rest_in}
use Rattle.sim_steps_model.specs.declared.mode.Rest.TheVariants as rest
use Rattle.sim_steps_model.specs.declared.mode.Unit.{Unit}
use Rattle.sim_steps_model.specs.declared.mode.Unit.TheVariants as unit
use Rattle.sim_kernel.specs.Accounting.{HasAccounts}

-- at all resources but those at these places the same is measured in both states
pub record AreMeasuredAlike {B : Type 0} (rs : List Resource) (places : List ℕ) (s t : State B) : Type 0 where
  pub same : (res : ℕ) → res < length rs → is_one_of res places ≡ false
      → measure_at rs res t.facilities ≡ measure_at rs res s.facilities

-- a step leads from s, a state of the machine that the old kernel was opened with, to a lawful state that the new one
-- stands for, whose accounts are right where those of s were, and adds the line answered; the same is measured as in s at all
-- resources but those at these places
pub record StepsFrom {B Code : Type 0}
    (body : BodyOf B Code) (old : PartsOf B Code) (s : State B) (answer : Unit) (places : List ℕ)
    (new : PartsOf B Code) : Type 0 where
  pub state : State B
  pub stepped : StepOf body old s state
  pub lawful : LawfulOf body new state
  pub stands : StandsFor new state
  pub accounts : HasAccounts body old s → HasAccounts body new state
  pub lines : state.lines ≡ s.lines ++ lines_of answer
  pub measures : AreMeasuredAlike old.setup.resources places s state

-- so it is from whatever lawful state the kernel stood for
pub record MakesStep {B Code : Type 0}
    (body : BodyOf B Code) (old : PartsOf B Code) (answer : Unit) (places : List ℕ)
    (new : PartsOf B Code) : Type 0 where
  pub each : (s : State B) → LawfulOf body old s → StandsFor old s → StepsFrom body old s answer places new

-- so it is, it adds no line, the same is measured at all resources, and no time passes; what the kernel was opened with
-- stays, and it is busy then
pub record MakesQuietStep {B Code : Type 0} (body : BodyOf B Code) (old new : PartsOf B Code) : Type 0 where
  pub makes : MakesStep body old unit.Quiet [] new
  pub time : new.shared.happen.time ≡ old.shared.happen.time
  pub opened : IsOpenedAs old new
  pub busy : rest_in new ≡ rest.Busy

-- so many units in a row, at least one: all but the last are such steps, and the last is one that answers this, and changes
-- what is measured at these places alone
abbrev pub MakesSteps : {B Code : Type 0} → BodyOf B Code → ℕ → PartsOf B Code → Unit → List ℕ → PartsOf B Code → Type 0
MakesSteps body n old answer places new =
    QuietButLast (MakesQuietStep body) (λ mid. MakesStep body mid answer places new) n old
