-- What is to hold of every state that a run comes to. (It is this project's own: SimPy's documentation says what
-- happens, and not what stays true.)
use Rattle.std.specs.Prelude.{length}
use Rattle.sim_machine.specs.State.{State, Plan}
use Rattle.sim_machine.specs.Tellings.{Telling}
use Rattle.sim_machine.specs.LawfulTimes.{LawfulTimes}
use Rattle.sim_machine.specs.LawfulRegistrations.{LawfulRegistrations}
use Rattle.sim_machine.specs.LawfulProcesses.{LawfulProcesses}
use Rattle.sim_machine.specs.LawfulInterruptions.{LawfulInterruptions}
use Rattle.sim_machine.specs.LawfulWaiting.{LawfulWaiting}
use Rattle.sim_machine.specs.LawfulCapacities.{LawfulCapacities}
use Rattle.sim_machine.specs.LawfulConditions.{LawfulConditions}
use Rattle.sim_machine.specs.LawfulBodies.{LawfulBodies}
use Rattle.sim_machine.specs.LawfulChains.{LawfulChains}
use Rattle.sim_machine.specs.LawfulTries.{LawfulTries}
use Rattle.sim_machine.specs.LawfulLedger.{LawfulLedger}
use Rattle.sim_machine.specs.LawfulStops.{LawfulStops}

-- a lawful state: all of these hold
pub record Lawful {B : Type 0} (g : Plan B) (tell : Telling B) (sound : B → Type 0) (s : State B) : Type 0 where
  pub times : LawfulTimes s.facilities.calendar
  pub registrations : LawfulRegistrations s.facilities.calendar s.control
  pub processes : LawfulProcesses g.setup.events s
  pub interruptions : LawfulInterruptions s
  pub waiting : LawfulWaiting g tell s
  pub capacities : LawfulCapacities g.setup.resources s.facilities
  pub conditions : LawfulConditions s.facilities.calendar s.control
  pub bodies : LawfulBodies tell sound s
  pub chains : LawfulChains s.facilities.calendar s.control
  pub tries : LawfulTries (length g.setup.resources) s.facilities.calendar s.control
  pub ledger : LawfulLedger s.facilities
  pub stops : LawfulStops g.setup.until s.facilities.calendar s.control
