-- What the callbacks of conditions are called for.
use Rattle.std.specs.Prelude.{◌≡◌, ◌<◌, List, Option, None, IsSome, IsTrue, IsFalse, length}
use Rattle.std.specs.List.{list_any}
use Rattle.sim_types.specs.declared.event.EventId.{EventId}
use Rattle.sim_types.specs.declared.event.Callback.{Callback}
use Rattle.sim_types.specs.declared.event.Callback.TheVariants as callback
use Rattle.sim_machine.specs.Events.{is_same}
use Rattle.sim_happen_model.specs.TableOf.{Kept, IsKept, kept_at, kept_condition}

-- e is a member of a condition that is kept and was not cancelled; where it is pending not all members are counted
pub record ChecksMember (condition e : EventId) (events : List (Option Kept)) : Type 0 where
  pub kept : IsKept events condition
  pub not_cancelled : IsFalse (kept_at events condition).event.cancelled
  pub member : IsTrue (list_any (is_same e) (kept_condition events condition).members)
  pub counts : (kept_at events condition).event.outcome ≡ None
      → let x = kept_condition events condition in x.count < length x.members

-- an event that is kept is a condition
pub record BuildsCondition (condition : EventId) (events : List (Option Kept)) : Type 0 where
  pub kept : IsKept events condition
  pub is : IsSome (kept_at events condition).event.condition

-- what a callback of e finds of a condition that it checks or builds
abbrev pub CallsCondition : EventId → Callback → List (Option Kept) → Type 0
CallsCondition e (callback.Check condition) events = ChecksMember condition e events
CallsCondition e (callback.Build condition) events = BuildsCondition condition events
CallsCondition e _ events = Unit {0}
