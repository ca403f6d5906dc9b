-- What comes of a timeout that the running process asks for.
use Rattle.std.specs.Prelude.{ℕ, ℤ, IsFalse}
use Rattle.sim_types.specs.declared.event.EventId.{EventId}
use Rattle.sim_machine.specs.State.{State}
use Rattle.sim_machine.specs.Effect.{with_timeout}
use Rattle.sim_machine.specs.Bodies.{BodyOf}
use Rattle.sim_machine.specs.Scopes.{on_events}
use Rattle.sim_machine.specs.Triggering.{make_timeout}
use Rattle.sim_happen_model.specs.TableOf.{IsKept, kept_at}
use Rattle.sim_steps_model.specs.PartsOf.{PartsOf, KeepsButHappen}
use Rattle.sim_steps_model.specs.Becoming.{Becomes, BecomesWith}

-- none is made, and the process is told why
pub record RefusesTimeout {B Code : Type 0} (body : BodyOf B Code) (delay value : ℤ) (old new : PartsOf B Code) : Type 0 where
  pub each : (after : EventId → State B → State B) → Becomes body (with_timeout delay value after) old new

-- e is made, which is kept and not processed, and whatever comes after it comes then
pub record MakesTimeout {B Code : Type 0}
    (body : BodyOf B Code) (delay value : ℤ) (e : EventId) (old new : PartsOf B Code) : Type 0 where
  pub each : (more : ℕ) (after : EventId → State B → State B) (last : PartsOf B Code) →
      BecomesWith body more (after e) new last → BecomesWith body more (with_timeout delay value after) old last
  pub itself : Becomes body (on_events (make_timeout delay value)) old new
  pub kept : IsKept new.shared.happen.events e
  pub unprocessed : IsFalse (kept_at new.shared.happen.events e).event.processed
  pub others : KeepsButHappen old new
