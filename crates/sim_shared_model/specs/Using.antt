-- Who uses a resource, as far as it is seen.
use Rattle.std.specs.Prelude.{Bool, List, []}
use Rattle.std.specs.List.{list_any}
use Rattle.sim_types.specs.declared.event.EventId.{EventId}
use Rattle.sim_machine.specs.State.{User}
use Rattle.sim_machine.specs.Events.{is_same}
use Rattle.sim_shared_model.specs.Attempts.{users_but}
use Rattle.sim_shared_model.specs.AnyShared.{SharedResource}
use Rattle.sim_shared_model.specs.declared.resource.AnyResource.TheVariants.{Desk}

-- the users of a resource; containers and stores have none
abbrev pub users_at : SharedResource → List User
users_at (Desk d) = d.users
users_at _ = []

-- whether the request uses it
abbrev pub uses_at : EventId → SharedResource → Bool
uses_at request x = list_any (λ u. is_same u.request request) (users_at x)

-- the request uses it no longer
abbrev pub released_at : EventId → SharedResource → SharedResource
released_at request (Desk d) = Desk (record d { users = users_but request d.users })
released_at request x = x
