-- What each desk keeps.
use Rattle.std.specs.Prelude.{◌≡◌, ◌≢◌, true, ℕ, ◌+◌, ◌-◌, ◌≤◌, min, List, length, All, AllPairs}
use Rattle.sim_machine.specs.State.{User}
use Rattle.sim_machine.specs.Requests.{is_preemptive}
use Rattle.sim_shared_model.specs.declared.desk.DeskKind.{DeskKind}
use Rattle.sim_shared_model.specs.declared.desk.WaitingRequest.{WaitingRequest}
use Rattle.sim_shared_model.specs.DeskOf.{resource_kind, goes_by_keys}
use Rattle.sim_shared_model.specs.Sorting.{IsInOrderBy}
use Rattle.sim_resource.specs.QueueOrder.{waits_before}
use Rattle.sim_resource.specs.GrantOrder.{UsersOf}

-- the requests that wait differ, those that are users differ, and none does both
pub record AreApart (queue : List WaitingRequest) (users : List User) : Type 0 where
  pub waiting : AllPairs (λ v w. v.request ≢ w.request) queue
  pub using : AllPairs (λ u v. u.request ≢ v.request) users
  pub either : All (λ w. All (λ u. u.request ≢ w.request) users) queue

-- there is room in the queue for those that may still join it, and among the users for all that wait or may, as far as
-- the capacity goes
pub record HasDeskRoom (capacity queue users spare most_places most_slots : ℕ) : Type 0 where
  pub places : spare + queue ≤ most_places
  pub slots : min (capacity - users) (spare + queue) ≤ most_slots

-- at most so many users as the capacity; no request is there twice; those that wait by their keys stand by them; and users
-- are ranked where one may be preempted
pub record IsSoundDesk (kind : DeskKind) (capacity : ℕ) (queue : List WaitingRequest) (users : UsersOf) : Type 0 where
  pub within : length users.users ≤ capacity
  pub apart : AreApart queue users.users
  pub by_keys : goes_by_keys kind ≡ true → IsInOrderBy waits_before queue
  pub ranked : users.ranked ≡ is_preemptive (resource_kind kind)
