-- What holds of every kernel.
use Rattle.std.specs.Prelude.{◌≡◌, ℕ, ◌+◌, ◌*◌, ◌≤◌, ◌^◌, [], length}
use Rattle.sim_machine.specs.State.{State}
use Rattle.sim_machine.specs.Bodies.{BodyOf}
use Rattle.sim_machine.specs.Setups.{FitsCode}
use Rattle.sim_happen_model.specs.HappenOf.{held}
use Rattle.sim_steps_model.specs.PartsOf.{PartsOf}
use Rattle.sim_steps_model.specs.StandsFor.{Balances, StandsFor, LawfulOf}
use Rattle.sim_steps_model.specs.Becoming.{AreFew, most_held}

-- one unit makes at most so many events
abbrev pub most_made : ℕ
most_made = 40

-- more events than any opening state has
abbrev pub most_opened : ℕ
most_opened = 2 ^ 18

-- the numbers of a kernel that has made so many units
pub record IsBounded {B Code : Type 0} (units : ℕ) (parts : PartsOf B Code) : Type 0 where
  pub events : length parts.shared.happen.events ≤ most_opened + most_made * units
  pub processed : parts.processed ≤ units

-- a kernel that has made so many units was opened with a setup for its code and has the resources of that, stands for a lawful
-- state, for which the accounts of holders balance, has bounded numbers, and each event has few holders
pub record Holds {B Code : Type 0}
    (body : BodyOf B Code) (units : ℕ) (parts : PartsOf B Code) : Type 0 where
  pub fits : FitsCode (body.facts parts.code) parts.setup
  pub resources : parts.shared.setup ≡ parts.setup.resources
  pub state : State B
  pub lawful : LawfulOf body parts state
  pub stands : StandsFor parts state
  pub balances : Balances body [] parts state
  pub bounded : IsBounded units parts
  pub few : AreFew (most_held * (units + most_opened)) (held parts.shared.happen)
