-- What the code does where a process is polled.
use Rattle.std.specs.Prelude.{◌≡◌, ℕ, List, [], ◌∷◌, ◌++◌, Option, Some, None, All, IsFalse, slice_index_or}
use Rattle.std.specs.Option.{option_map}
use Rattle.sim_types.specs.declared.event.ProcId.{ProcId}
use Rattle.sim_types.specs.declared.event.Signal.{Signal}
use Rattle.sim_types.specs.declared.event.Signal.TheVariants as signal
use Rattle.sim_types.specs.declared.event.EventId.{EventId}
use Rattle.sim_types.specs.declared.op.Op.{Op}
use Rattle.sim_types.specs.declared.op.Op.TheVariants as op
use Rattle.sim_machine.specs.State.{State}
use Rattle.sim_machine.specs.Processes.{with_body}
use Rattle.sim_machine.specs.Steps.{polled}
use Rattle.sim_machine.specs.Tellings.{CodeFacts}
use Rattle.sim_machine.specs.Bodies.{BodyOf}
use Rattle.sim_machine_law.specs.NamedEvents.{events_named}
use Rattle.sim_happen_model.specs.TableOf.{IsKept, kept_at}
use Rattle.sim_procs.specs.RecordOf.{RecordOf, change_record, record_of}
use Rattle.sim_happen_model.specs.Naming.{but_zero}
use Rattle.sim_steps_model.specs.declared.mode.Unit.{Unit}
use Rattle.sim_steps_model.specs.PartsOf.{PartsOf, plan_of, with_happen}
use Rattle.sim_steps_model.specs.StandsFor.{StandsFor, LawfulOf, StepOf, lines_of}
use Rattle.sim_steps_model.specs.Becoming.{BecomesOwing, most_held}
use Rattle.sim_steps_model.specs.Holding.{TakesHolder}

-- the place of a body that changes where it is told this: an event that it made goes into this place, if into any
abbrev pub place_changed : Option ℕ → Signal → Option ℕ
place_changed at (signal.Made e) = at
place_changed at _ = None

-- the event that stands there; event 0 where there is no place
abbrev pub event_there : List EventId → Option ℕ → EventId
event_there events None = record { 0 = 0 }
event_there events (Some i) = slice_index_or events i (record { 0 = 0 })

-- the same for the body of a process, if it is alive
abbrev pub place_given : {B : Type 0} → (B → Option ℕ) → Signal → Option (RecordOf B) → Option ℕ
place_given places told None = None
place_given places told (Some r) = place_changed (places r.body) told

abbrev pub event_placed : {B : Type 0} → (B → List EventId) → Option ℕ → Option (RecordOf B) → EventId
event_placed events at None = record { 0 = 0 }
event_placed events at (Some r) = event_there (events r.body) at

-- the process is polled: it is told this, it asks for an operation, and its body is in a new state; and a holder may be taken
-- of what it was told
pub record Asks {B Code : Type 0}
    (body : BodyOf B Code) (p : ProcId) (told : Signal) (old : PartsOf B Code) (asked : Op)
    (new : PartsOf B Code) : Type 0 where
  pub before : B
  pub later : B
  pub found : option_map (λ r. r.body) (record_of p old.live) ≡ Some before
  pub turned : body.turn old.code before old.shared.happen.time told asked later
  pub takes : TakesHolder old.shared.happen new.shared.happen
  pub others : new ≡ record (with_happen new.shared.happen old)
      { live = change_record p (λ r. record r { body = later }) old.live }

-- its places are held as they are then, and what stood in the one that changed is to be given back
pub record AsksOwing {B Code : Type 0}
    (body : BodyOf B Code) (p : ProcId) (told : Signal) (left : EventId) (old : PartsOf B Code)
    (asked : Op) (new : PartsOf B Code) : Type 0 where
  pub asks : Asks body p told old asked new
  pub owes : BecomesOwing body [] (but_zero (left ∷ [])) 1 (with_body p asks.later) old new

-- and what it asks for is done, as the machine does it; that event is still to be given back
pub record DoesAsked {B Code : Type 0}
    (body : BodyOf B Code) (p : ProcId) (left : EventId) (old : PartsOf B Code) (answer : Unit)
    (new : PartsOf B Code) : Type 0 where
  pub asked : Op
  pub later : B
  pub steps : (s : State B) → LawfulOf body old s → StandsFor old s →
      StepOf body old s (polled (plan_of body old) p asked later s)
  pub lines : (s : State B) → StandsFor old s →
      (polled (plan_of body old) p asked later s).lines ≡ s.lines ++ lines_of answer
  pub owes : BecomesOwing body [] (but_zero (left ∷ [])) most_held
      (polled (plan_of body old) p asked later) old new

-- the events that an operation gives an outcome, at once or later
abbrev pub events_triggered : Op → List EventId
events_triggered (op.Succeed e value) = e ∷ []
events_triggered (op.Fail e code) = e ∷ []
events_triggered (op.Chain e y) = y ∷ []
events_triggered _ = []

-- the event that it cancels where that waits at a resource
abbrev pub events_cancelled : Op → List EventId
events_cancelled (op.Cancel e) = e ∷ []
events_cancelled _ = []

-- what an operation names is kept, what it triggers was not cancelled, and what it cancels is no condition
pub record NamesKept {B Code : Type 0} (f : CodeFacts) (asked : Op) (parts : PartsOf B Code) : Type 0 where
  pub kept : All (IsKept parts.shared.happen.events) (events_named f asked)
  pub not_cancelled : All (λ e. IsFalse (kept_at parts.shared.happen.events e).event.cancelled) (events_triggered asked)
  pub plain : All (λ e. (kept_at parts.shared.happen.events e).event.condition ≡ None) (events_cancelled asked)
