-- Which events a kernel keeps.
use Rattle.std.specs.Prelude.{ℕ, length}
use Rattle.sim_machine.specs.State.{State}
use Rattle.sim_machine.specs.Bodies.{BodyOf}
use Rattle.sim_machine.specs.KeptEvents.{kept_events}
use Rattle.sim_happen_model.specs.Accounts.{Accounts}
use Rattle.sim_steps_model.specs.PartsOf.{PartsOf}

-- the accounts of holders are right for s, a state of the machine that the kernel was opened with
abbrev pub HasAccounts : {B Code : Type 0} → BodyOf B Code → PartsOf B Code → State B → Type 0
HasAccounts body parts s =
    Accounts parts.setup.events (body.tell parts.code) parts.shared.happen.events s

-- how many events that machine keeps in the state s
abbrev pub kept_of : {B Code : Type 0} → BodyOf B Code → PartsOf B Code → State B → ℕ
kept_of body parts s = length (kept_events parts.setup.events (body.tell parts.code) s)
