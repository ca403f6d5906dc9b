-- How users are kept: each with the number of its grant, and where one may be preempted by their keys.
use Rattle.std.specs.Prelude.{◌≡◌, ◌<◌, ◌≤◌, ◌++◌, ◌==◌, Bool, true, not, nat_lt, ℕ, List, Option, Some, None, [], ◌∷◌, map, filter, All, if◌then◌else◌}
use Rattle.std.specs.List.{list_any}
use Rattle.sim_types.specs.declared.event.EventId.{EventId}
use Rattle.sim_machine.specs.State.{User}
use Rattle.sim_machine.specs.Events.{is_same}
use Rattle.sim_resource.specs.declared.user.NumberedUser.{NumberedUser}
use Rattle.sim_shared_model.specs.Sorting.{sorted_by}
use Rattle.sim_resource.specs.QueueOrder.{ranks_before}

-- the users in the order of grant, whether they are ranked by their keys, and for how many more there is room
pub record UsersOf : Type 0 where
  pub ranked : Bool
  pub users : List User
  pub spare : ℕ

-- whether one was granted before another
abbrev pub was_granted_before : NumberedUser → NumberedUser → Bool
was_granted_before g h = nat_lt g.grant h.grant

-- whether the key of one comes before that of another
abbrev pub stands_before : NumberedUser → NumberedUser → Bool
stands_before g h = ranks_before g.user h.user

-- the users in the order of grant
abbrev pub as_granted : List NumberedUser → List User
as_granted gs = map (λ g. g.user) (sorted_by was_granted_before gs)

-- all grants have lower numbers than the next; ranked users stand by their keys, among equals as granted
pub record IsSoundUsers (ranked : Bool) (next : ℕ) (gs : List NumberedUser) : Type 0 where
  pub numbered : All (λ g. g.grant < next) gs
  pub by_keys : ranked ≡ true → map (λ g. g.user) gs ≡ sorted_by ranks_before (as_granted gs)

-- the users but the one of this request
abbrev pub numbered_but : EventId → List NumberedUser → List NumberedUser
numbered_but request gs = filter (λ g. not (is_same g.user.request request)) gs

-- the users without the last, who is of this request
pub record IsWithoutLast (request : EventId) (gs others : List NumberedUser) : Type 0 where
  pub last : NumberedUser
  pub is : gs ≡ others ++ last ∷ []
  pub of_request : request ≡ last.user.request

-- a user whose number is the other one, if it was this
abbrev pub with_number : ℕ → ℕ → NumberedUser → NumberedUser
with_number from to g = if g.grant == from then record g { grant = to } else g

-- the least number of a grant that is not below this
pub record IsLeastFrom (next : ℕ) (gs : List NumberedUser) (n : ℕ) : Type 0 where
  pub not_below : next ≤ n
  pub there : list_any (λ g. g.grant == n) gs ≡ true
  pub least : All (λ g. next ≤ g.grant → n ≤ g.grant) gs

-- the least number of a grant that is not below this, if there is one
pub record IsNextGrant (next : ℕ) (gs : List NumberedUser) (answer : Option ℕ) : Type 0 where
  pub none_left : answer ≡ None → All (λ g. g.grant < next) gs
  pub one_left : (n : ℕ) → answer ≡ Some n → IsLeastFrom next gs n
