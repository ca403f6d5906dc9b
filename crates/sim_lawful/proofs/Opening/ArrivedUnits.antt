-- An arrival is a unit: where the next entry of the journal comes in by a port of the setup, the state stays lawful.
use Rattle.std.proofs.Common.{◌<◌, ℤ, length}
use Rattle.sim_types.specs.declared.event.Signal.{Signal}
use Rattle.sim_types.specs.declared.op.Op.{Op}
use Rattle.sim_types.specs.declared.setup.Arrival.{Arrival}
use Rattle.sim_machine.specs.State.{Plan}
use Rattle.sim_machine.specs.Tellings.{Telling, CodeFacts}
use Rattle.sim_machine.specs.BodyLaw.{IsLawfulBody}
use Rattle.sim_machine.specs.Setups.{FitsCode}
use Rattle.sim_machine.specs.Units.{Course, inject}
use Rattle.sim_lawful.proofs.Opening.KeptOpeningParts.{lawful-arrived}
use Rattle.sim_machine_law.proofs.KeptParts.LawfulBasis.{LawfulBasis}

pub lawful-injected : {B : Type 0} (f : CodeFacts) (tell : Telling B) (sound : B → Type 0) (g : Plan B)
    (turn : B → ℤ → Signal → Op → B → Type 0) (m : Course B) (a : Arrival) → IsLawfulBody f tell sound g.start turn
    → FitsCode f g.setup → a.port < length g.setup.ports → LawfulBasis g tell sound m.state
    → LawfulBasis g tell sound (inject g a m).state
lawful-injected f tell sound g turn m a law fits below h = lawful-arrived f tell sound g turn m.state a.port a.value law fits below h
