-- Who waits at a container or a store, and which waiter a try serves (SimPy's "Shared resources").
use Rattle.std.specs.Prelude.{◌≡◌, ◌≢◌, Bool, not, ◌<◌, List, ◌∷◌, ◌++◌, filter, length, take, Option, Some, None, All, AllPairs}
use Rattle.std.specs.List.{list_any}
use Rattle.sim_types.specs.declared.event.EventId.{EventId}
use Rattle.sim_machine.specs.Events.{is_same}
use Rattle.sim_machine.specs.Attempts as attempts
use Rattle.sim_machine.specs.Trying.{Reach}
use Rattle.sim_machine.specs.Trying as trying
use Rattle.sim_shared_model.specs.declared.stock.Served.{Served}

-- whether the event is one of these
abbrev pub stands_among : EventId → List EventId → Bool
stands_among e events = list_any (λ f. is_same f e) events

-- no event stands twice among these
abbrev pub AllDiffer : List EventId → Type 0
AllDiffer events = AllPairs (λ e f. e.0 ≢ f.0) events

-- the waiters that are not of this event
abbrev pub besides : {W : Type 0} → (W → EventId) → EventId → List W → List W
besides event e ws = filter (λ w. not (is_same (event w) e)) ws

-- the waiters of a queue that a try looks at for as long as it serves none: all, or the first alone
abbrev pub looked_at : {W : Type 0} → Reach → List W → List W
looked_at trying.All ws = ws
looked_at _ ws = take 1 ws

-- a try serves nobody: to each waiter that it looks at the machine's attempt answers nothing
abbrev pub ServesNone : {W : Type 0} → Reach → (W → Option attempts.Served) → List W → Type 0
ServesNone reach attempt ws = All (λ w. attempt w ≡ None) (looked_at reach ws)

-- a try serves one waiter of those that it looks at, as the machine's attempt at it answers: it leaves its queue. Those
-- before it are passed over, since to them the attempt answers nothing
pub record ServesOne {W : Type 0} (reach : Reach) (attempt : W → Option attempts.Served) (event : W → EventId)
    (ws left : List W) (answer : Served) : Type 0 where
  pub passed : List W
  pub waiter : W
  pub behind : List W
  pub deed : attempts.Served
  pub stood : ws ≡ passed ++ waiter ∷ behind
  pub stay : left ≡ passed ++ behind
  pub reached : length passed < length (looked_at reach ws)
  pub unserved : All (λ w. attempt w ≡ None) passed
  pub served : attempt waiter ≡ Some deed
  pub told : answer ≡ record { event = event waiter; value = deed.value }
