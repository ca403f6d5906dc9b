-- What the laws of conditions speak of: the events that a condition is made of, and when a member counts.
use Rattle.std.specs.Prelude.{true, false, ◌≡◌, ◌<◌, ◌≤◌, List, [], ◌∷◌, length}
use Rattle.std.specs.List.{Contains}
use Rattle.sim_types.specs.declared.event.EventId.{EventId}
use Rattle.sim_machine.specs.State.{AllOrAny, Calendar}
use Rattle.sim_machine.specs.Events.{event_at, is_pending, is_processed, is_fail}
use Rattle.sim_machine.specs.Conditions.{is_condition, condition_at, members_of, most_weight}

-- members lead from one event to another, each a member of the one before
abbrev pub LeadsTo : Calendar → List EventId → EventId → EventId → Type 0
LeadsTo c [] e leaf = e ≡ leaf
LeadsTo c (member ∷ path) e leaf = Contains (members_of c e) member × LeadsTo c path member leaf

-- an event that a condition is made of: no condition itself, and reached through members, in no more steps than a
-- condition may weigh
pub record IsLeafOf (c : Calendar) (cond leaf : EventId) : Type 0 where
  pub path : List EventId
  pub within : length path ≤ most_weight
  pub leads : LeadsTo c path cond leaf
  pub plain : is_condition c leaf ≡ false

-- a condition of this sort that is pending, so that a processed member counts
pub record IsCounting (c : Calendar) (sort : AllOrAny) (cond : EventId) : Type 0 where
  pub made : cond.0 < length c.events
  pub pending : is_pending c cond ≡ true
  pub is : (condition_at c cond).sort ≡ sort

-- the condition is processed and ok, and its value has this event
pub record HasInValue (c : Calendar) (cond e : EventId) : Type 0 where
  pub processed : is_processed c cond ≡ true
  pub ok : is_fail (event_at c cond).outcome ≡ false
  pub contained : Contains (condition_at c cond).value e
