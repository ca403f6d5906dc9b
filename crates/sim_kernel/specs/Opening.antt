-- What is made where a kernel is opened.
use Rattle.std.specs.Prelude.{List, [], ◌+◌, ◌*◌, length, fold}
use Rattle.sim_types.specs.declared.setup.Start.{Start}
use Rattle.sim_machine.specs.Bodies.{BodyOf}
use Rattle.sim_machine.specs.Runs.{blank_state, start_process}
use Rattle.sim_machine.specs.State.{Plan, State}
use Rattle.sim_happen_model.specs.HappenOf.{held}
use Rattle.sim_steps_model.specs.PartsOf.{PartsOf, plan_of}
use Rattle.sim_steps_model.specs.StandsFor.{Balances}
use Rattle.sim_steps_model.specs.Becoming.{AreFew, Stands}
use Rattle.sim_steps_model.specs.Opening.{most_begun}

-- the state in which these were started
abbrev pub with_starts : {B : Type 0} → Plan B → List Start → State B
with_starts g xs = fold (start_process g) (blank_state g) xs

-- the new kernel stands for the state in which these were started, before it is said what stops the run; its accounts
-- balance, and each event has few holders
pub record HasStarted {B Code : Type 0}
    (body : BodyOf B Code) (starts : List Start) (old new : PartsOf B Code) : Type 0 where
  pub stands : Stands new (with_starts (plan_of body old) starts)
  pub balances : Balances body [] new (with_starts (plan_of body old) starts)
  pub few : AreFew (1 + most_begun * length starts) (held new.shared.happen)
