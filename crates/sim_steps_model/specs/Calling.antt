-- How the callback that comes next is called.
use Rattle.std.specs.Prelude.{◌≡◌, List, [], ◌∷◌, Option, Some, None, All, IsFalse}
use Rattle.sim_types.specs.declared.event.EventId.{EventId}
use Rattle.sim_types.specs.declared.event.Callback.{Callback}
use Rattle.sim_types.specs.declared.event.Callback.TheVariants as callback
use Rattle.sim_machine.specs.State.{Calling, State, Plan}
use Rattle.sim_machine.specs.Standing.{left_of}
use Rattle.sim_machine.specs.Steps.{call}
use Rattle.sim_happen_model.specs.TableOf.{IsKept, kept_at}
use Rattle.sim_procs.specs.RecordOf.{RecordOf, record_of}
use Rattle.sim_steps_model.specs.PartsOf.{PartsOf}

-- a callback of e is called that was already taken out of those that are left to call
abbrev pub called : {B : Type 0} → Plan B → EventId → Callback → State B → State B
called g e x s = call g e x (left_of s.control) s

-- the callback x of e is taken out of those that are left to call
pub record TakesCallback {B Code : Type 0} (e : EventId) (x : Callback) (old new : PartsOf B Code) : Type 0 where
  pub before : old.control ≡ Calling e (x ∷ new.shared.happen.left)
  pub happen : new.shared.happen
      ≡ record old.shared.happen { left = new.shared.happen.left; spare = new.shared.happen.spare }
  pub others : new
      ≡ record old { shared = record old.shared { happen = new.shared.happen }; control = Calling e new.shared.happen.left }

-- the event that a callback gives an outcome
abbrev pub events_called : Callback → List EventId
events_called (callback.Trigger y) = y ∷ []
events_called _ = []

-- what a process waits for, if it is alive
abbrev pub target_in : {B : Type 0} → Option (RecordOf B) → List EventId
target_in None = []
target_in (Some r) = r.target ∷ []

-- the event that a process waits for whom a callback interrupts
abbrev pub events_left : {B Code : Type 0} → Callback → PartsOf B Code → List EventId
events_left (callback.Strike p) parts = target_in (record_of p parts.live)
events_left _ parts = []

-- they are kept, and what is given an outcome was not cancelled
pub record CallsKept {B Code : Type 0} (x : Callback) (parts : PartsOf B Code) : Type 0 where
  pub kept : All (IsKept parts.shared.happen.events) (events_called x)
  pub left : All (IsKept parts.shared.happen.events) (events_left x parts)
  pub not_cancelled : All (λ e. IsFalse (kept_at parts.shared.happen.events e).event.cancelled) (events_called x)
