-- What the resources of a kernel need, and what comes of a put or get that the running process asks for.
use Rattle.std.specs.Prelude.{ℕ, ℤ, ◌+◌, ◌<◌, ◌^◌, length, IsTrue, IsFalse}
use Rattle.sim_types.specs.declared.event.EventId.{EventId}
use Rattle.sim_machine.specs.State.{Facilities, State, Plan}
use Rattle.sim_machine.specs.Users.{resource_at}
use Rattle.sim_machine.specs.MayAsk.{takes_requests}
use Rattle.sim_machine.specs.Effect.{with_move}
use Rattle.sim_machine.specs.Bodies.{BodyOf}
use Rattle.sim_machine.specs.Scopes.{on_facilities}
use Rattle.sim_happen_model.specs.TableOf.{IsKept}
use Rattle.sim_shared_model.specs.Making.{ShowsSome}
use Rattle.sim_shared_model.specs.Waiting.{AreAllOpen}
use Rattle.sim_steps_model.specs.PartsOf.{PartsOf, HasUnitRoom}
use Rattle.sim_steps_model.specs.Becoming.{Becomes, BecomesWith}

-- all that waits is open, some facilities are shown, and there is room for what is made
pub record AreResourcesReady {B Code : Type 0} (parts : PartsOf B Code) : Type 0 where
  pub waiting : AreAllOpen parts.shared
  pub shown : ShowsSome parts.shared
  pub room : HasUnitRoom parts
  pub number : length parts.shared.happen.events + 1 < 2 ^ 62

-- requests are made at the resource of this place
pub record TakesRequests {B Code : Type 0} (res : ℕ) (parts : PartsOf B Code) : Type 0 where
  pub within : res < length parts.setup.resources
  pub slots : IsTrue (takes_requests (resource_at parts.setup.resources res).kind)

-- puts and gets are
pub record TakesMoves {B Code : Type 0} (res : ℕ) (parts : PartsOf B Code) : Type 0 where
  pub within : res < length parts.setup.resources
  pub stock : IsFalse (takes_requests (resource_at parts.setup.resources res).kind)

-- the put or get is not made, and the process is told why
pub record RefusesMove {B Code : Type 0}
    (body : BodyOf B Code) (g : Plan B) (res : ℕ) (amount : ℤ) (change : Facilities → Facilities)
    (old new : PartsOf B Code) : Type 0 where
  pub each : (after : EventId → State B → State B) →
      Becomes body (with_move g res amount change after) old new

-- e is made, which is kept, and whatever comes after it comes then; there is room for one more to wait for it
pub record MakesMove {B Code : Type 0}
    (body : BodyOf B Code) (g : Plan B) (res : ℕ) (amount : ℤ) (change : Facilities → Facilities) (e : EventId)
    (old new : PartsOf B Code) : Type 0 where
  pub each : (more : ℕ) (after : EventId → State B → State B) (last : PartsOf B Code) →
      BecomesWith body more (after e) new last → BecomesWith body more (with_move g res amount change after) old last
  pub itself : Becomes body (on_facilities change) old new
  pub kept : IsKept new.shared.happen.events e
  pub room : 0 < new.shared.happen.spare.callbacks
