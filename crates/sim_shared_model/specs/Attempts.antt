-- What an attempt at the first of a desk's queue answers and leaves (SimPy's "Shared resources").
use Rattle.std.specs.Prelude.{◌≡◌, ◌⊎◌, not, ℤ, List, [], ◌∷◌, ◌++◌, filter}
use Rattle.sim_types.specs.declared.event.EventId.{EventId}
use Rattle.sim_types.specs.declared.event.ProcId.{ProcId}
use Rattle.sim_machine.specs.State.{User}
use Rattle.sim_machine.specs.Events.{is_same}
use Rattle.sim_machine.specs.Attempts as machine
use Rattle.sim_machine.specs.Attempts.{NoSlot, FreeSlot, SlotOf, grant_of}
use Rattle.sim_shared_model.specs.declared.desk.Grant.{Grant}
use Rattle.sim_shared_model.specs.declared.desk.Grant.TheVariants as grant
use Rattle.sim_shared_model.specs.declared.desk.WaitingRequest.{WaitingRequest}
use Rattle.sim_shared_model.specs.DeskOf.{DeskOf, resource_of}

-- the user that a request is which was granted at this time
abbrev pub user_of : WaitingRequest → ℤ → User
user_of w time = record { request = w.request; process = w.process; key = w.key; since = time }

-- the waiting requests but this one
abbrev pub waiting_but : EventId → List WaitingRequest → List WaitingRequest
waiting_but request ws = filter (λ w. not (is_same w.request request)) ws

-- the users but the one of this request
abbrev pub users_but : EventId → List User → List User
users_but request us = filter (λ u. not (is_same u.request request)) us

-- what an attempt answers, and the desk after it
pub record Attempt : Type 0 where
  pub answer : Grant
  pub desk : DeskOf

-- the first of the queue left it, and is a user since this time, behind these
abbrev pub serve_first : WaitingRequest → List WaitingRequest → List User → ℤ → DeskOf → DeskOf
serve_first w rest us time d = record d { queue = rest; users = us ++ user_of w time ∷ [] }

-- the attempt at the first of the queue, by the slot that the machine gives it
abbrev pub attempt_by : machine.Grant → WaitingRequest → List WaitingRequest → ℤ → DeskOf → Attempt
attempt_by NoSlot w rest time d = record { answer = grant.None; desk = d }
attempt_by FreeSlot w rest time d = record { answer = grant.Granted w.request; desk = serve_first w rest d.users time d }
attempt_by (SlotOf u) w rest time d =
    record { answer = grant.Preempted w.request u.request u.process u.since; desk = serve_first w rest (users_but u.request d.users) time d }

-- the attempt at the first of this queue
abbrev pub attempt_at : List WaitingRequest → ℤ → DeskOf → Attempt
attempt_at [] time d = record { answer = grant.None; desk = d }
attempt_at (w ∷ rest) time d = attempt_by (grant_of (resource_of d) w.key d.users) w rest time d

-- the attempt at the first that waits; where nothing waits, nothing happens
abbrev pub attempt_of : ℤ → DeskOf → Attempt
attempt_of time d = attempt_at d.queue time d

-- a request waits first, and is given this slot
pub record FirstIsGiven (slot : machine.Grant) (d : DeskOf) : Type 0 where
  pub first : WaitingRequest
  pub rest : List WaitingRequest
  pub queue : d.queue ≡ first ∷ rest
  pub given : grant_of (resource_of d) first.key d.users ≡ slot

-- nothing waits, or the first is given no slot
abbrev pub NoneIsServed : DeskOf → Type 0
NoneIsServed d = (d.queue ≡ []) ⊎ FirstIsGiven NoSlot d

-- this request was the first, and was given a free slot
pub record IsGranted (granted : EventId) (d : DeskOf) : Type 0 where
  pub first : FirstIsGiven FreeSlot d
  pub request : granted ≡ first.first.request

-- this request was the first, and was given the slot of the user of this victim, of this process since this time
pub record IsPreempting (granted preempted : EventId) (of_process : ProcId) (granted_at : ℤ) (d : DeskOf) : Type 0 where
  pub user : User
  pub first : FirstIsGiven (SlotOf user) d
  pub request : granted ≡ first.first.request
  pub victim : preempted ≡ user.request
  pub process : of_process ≡ user.process
  pub since : granted_at ≡ user.since
