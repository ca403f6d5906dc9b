-- What it means that something arrives at a kernel.
use Rattle.std.specs.Prelude.{◌≡◌, ◌++◌, [], ◌∷◌, ℕ, ℤ}
use Rattle.sim_types.specs.declared.line.Line.{Line}
use Rattle.sim_machine.specs.State.{State}
use Rattle.sim_machine.specs.Bodies.{BodyOf}
use Rattle.sim_machine.specs.Units.{arrive}
use Rattle.sim_steps_model.specs.PartsOf.{PartsOf, plan_of}
use Rattle.sim_steps_model.specs.StandsFor.{StandsFor, LawfulOf}
use Rattle.sim_kernel.specs.Accounting.{HasAccounts}
use Rattle.sim_kernel.specs.Stepping.{AreMeasuredAlike}

-- what s, a state of the machine that the old kernel was opened with, becomes where the value comes in by the port is
-- lawful, the new kernel stands for it, its accounts are right where those of s were, its lines are those of s and the line
-- answered, and the same is measured as in s at all resources
pub record ArrivesFrom {B Code : Type 0}
    (body : BodyOf B Code) (port : ℕ) (value : ℤ) (old : PartsOf B Code) (s : State B)
    (answer : Line) (new : PartsOf B Code) : Type 0 where
  pub lawful : LawfulOf body new (arrive (plan_of body old) port value s)
  pub stands : StandsFor new (arrive (plan_of body old) port value s)
  pub accounts : HasAccounts body old s →
      HasAccounts body new (arrive (plan_of body old) port value s)
  pub lines : (arrive (plan_of body old) port value s).lines ≡ s.lines ++ answer ∷ []
  pub measures : AreMeasuredAlike old.setup.resources [] s (arrive (plan_of body old) port value s)

-- so it is from whatever lawful state the kernel stood for
pub record MakesArrival {B Code : Type 0}
    (body : BodyOf B Code) (port : ℕ) (value : ℤ) (old : PartsOf B Code)
    (answer : Line) (new : PartsOf B Code) : Type 0 where
  pub each : (s : State B) → LawfulOf body old s → StandsFor old s →
      ArrivesFrom body port value old s answer new
