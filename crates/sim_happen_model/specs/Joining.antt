-- How the members of a condition join it.
use Rattle.std.specs.Prelude.{◌≡◌, ℕ, ◌+◌, ◌≤◌, false, List, Some, IsSome}
use Rattle.sim_types.specs.declared.event.EventId.{EventId}
use Rattle.sim_types.specs.declared.event.EventKind.TheVariants as kind
use Rattle.sim_machine.specs.State.{AllOrAny, EventOf, Calendar}
use Rattle.sim_machine.specs.Events.{change_event}
use Rattle.sim_machine.specs.Triggering.{make}
use Rattle.sim_machine.specs.Conditions.{condition_of}
use Rattle.sim_happen_model.specs.TableOf.{Spare, uncounted}
use Rattle.sim_happen_model.specs.HappenOf.{HappenOf}

-- the event e is made, a condition whose members are yet to join it
abbrev pub with_members : AllOrAny → List EventId → EventId → Calendar → Calendar
with_members sort ms e c =
    change_event e (λ x. record x { condition = Some (uncounted sort ms) }) (make kind.Cond c)

-- an event is a condition of these members, so many of which joined it at most
pub record IsJoining (joined : ℕ) (ms : List EventId) (x : EventOf) : Type 0 where
  pub condition : IsSome x.condition
  pub members : (condition_of x.condition).members ≡ ms
  pub count : (condition_of x.condition).count ≤ joined
  pub processed : x.processed ≡ false
  pub cancelled : x.cancelled ≡ false

-- so many callbacks more take their room at most
pub record TakesCallbacks (n : ℕ) (old new : HappenOf) : Type 0 where
  pub callbacks : old.spare.callbacks ≤ new.spare.callbacks + n
  pub events : new.spare.events ≡ old.spare.events
  pub conditions : new.spare.conditions ≡ old.spare.conditions

-- room for a condition of n members, with a callback at each of them and one of its own
pub record HasRoomFor (n : ℕ) (spare : Spare) : Type 0 where
  pub events : 1 ≤ spare.events
  pub conditions : 1 ≤ spare.conditions
  pub callbacks : n + 1 ≤ spare.callbacks

-- it was taken, but for the callbacks at members that were processed
pub record TakesRoomFor (n : ℕ) (old new : HappenOf) : Type 0 where
  pub events : new.spare.events + 1 ≡ old.spare.events
  pub conditions : new.spare.conditions + 1 ≡ old.spare.conditions
  pub callbacks : old.spare.callbacks ≤ new.spare.callbacks + n + 1
