-- What contracts see of a kernel.
use Rattle.std.specs.Prelude.{◌≡◌, ℕ, List}
use Rattle.sim_steps_model.specs.PartsOf.{PartsOf, KeepsButRoom}

-- its parts, how many units it has made, and the places of the resources that the last drop of a process may have changed
pub record KernelOf (B Code : Type 0) : Type 0 where
  pub parts : PartsOf B Code
  pub units : ℕ
  pub listed : List ℕ

-- all stays but the room
pub record IsAsBefore {B Code : Type 0} (old new : KernelOf B Code) : Type 0 where
  pub parts : KeepsButRoom old.parts new.parts
  pub units : new.units ≡ old.units
  pub listed : new.listed ≡ old.listed
