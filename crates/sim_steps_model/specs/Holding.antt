-- What is known of the events that are kept where one of them is held or given back, and which events a body holds.
use Rattle.std.specs.Prelude.{◌≡◌, ◌≤◌, ◌||◌, false, ℕ, List, [], ◌∷◌, ◌++◌, Option, length}
use Rattle.sim_types.specs.declared.event.EventId.{EventId}
use Rattle.sim_machine.specs.Tellings.{Telling}
use Rattle.sim_happen_model.specs.TableOf.{Kept, IsKept, kept_at}
use Rattle.sim_happen_model.specs.HappenOf.{HappenOf}
use Rattle.sim_happen_model.specs.Accounts.{Balanced}
use Rattle.sim_happen_model.specs.Naming.{but_zero, named_in_places}

-- a holder is taken: what is kept stays so, as it was, and nothing else is touched
pub record TakesHolder (old new : HappenOf) : Type 0 where
  pub kept : (e : EventId) → IsKept old.events e → IsKept new.events e
  pub event : (e : EventId) → IsKept old.events e → (kept_at new.events e).event ≡ (kept_at old.events e).event
  pub made : length new.events ≡ length old.events
  pub time : new.time ≡ old.time
  pub left : new.left ≡ old.left
  pub spare : new.spare ≡ old.spare

-- a holder is given back: what is neither processed nor cancelled stays kept, as it was; where events go there is more room;
-- and nothing else is touched
pub record ReturnsHolder (old new : HappenOf) : Type 0 where
  pub kept : (e : EventId) → IsKept old.events e → let x = (kept_at old.events e).event in (x.processed || x.cancelled) ≡ false →
      IsKept new.events e
  pub event : (e : EventId) → IsKept old.events e → let x = (kept_at old.events e).event in (x.processed || x.cancelled) ≡ false →
      (kept_at new.events e).event ≡ x
  pub made : length new.events ≡ length old.events
  pub events : old.spare.events ≤ new.spare.events
  pub callbacks : old.spare.callbacks ≤ new.spare.callbacks
  pub conditions : old.spare.conditions ≤ new.spare.conditions
  pub others : new ≡ record old { events = new.events; spare = new.spare }

-- a holder of e is taken, unless that is event 0: where accounts balanced, they do so with that one to be given back
pub record HoldsMore (e : EventId) (old new : List (Option Kept)) : Type 0 where
  pub balanced : (alone : EventId → ℕ) (todo : List EventId) → Balanced alone todo old →
      Balanced alone (but_zero (e ∷ []) ++ todo) new

-- these stand in the places of the body: but for event 0 they are those that it names
pub record StandInPlaces {B : Type 0} (tell : Telling B) (events : List EventId) (b : B) : Type 0 where
  pub named : but_zero (named_in_places tell b) ≡ but_zero events
