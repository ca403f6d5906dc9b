-- A resource of any kind, as contracts see it (SimPy's "Shared resources").
use Rattle.std.specs.Prelude.{◌≤◌, ℤ, pos, List, map, length}
use Rattle.sim_types.specs.declared.event.EventId.{EventId}
use Rattle.sim_types.specs.declared.setup.Resource.{Resource}
use Rattle.sim_shared_model.specs.DeskOf.{resource_of}
use Rattle.sim_shared_model.specs.Tanks.{container_of, waiting_at_tank}
use Rattle.sim_shared_model.specs.Shelves.{store_of, waiting_at_shelf}
use Rattle.sim_shared_model.specs.AnyShared.{SharedResource}
use Rattle.sim_shared_model.specs.declared.resource.AnyResource.TheVariants.{Desk, Tank, Shelf}

-- its kind and its capacity, as a resource of a scenario
abbrev pub declared_as : SharedResource → Resource
declared_as (Desk d) = resource_of d
declared_as (Tank t) = container_of t
declared_as (Shelf s) = store_of s

-- what a scenario says of a resource, but for what a container opens with
abbrev pub without_opening : Resource → Resource
without_opening r = record r { opening = pos 0 }

-- the events that wait at it
abbrev pub waiting_at : SharedResource → List EventId
waiting_at (Desk d) = map (λ w. w.request) d.queue
waiting_at (Tank t) = waiting_at_tank t
waiting_at (Shelf s) = waiting_at_shelf s

-- how much is in use of it, or stands in it: users, level or items
abbrev pub count_at : SharedResource → ℤ
count_at (Desk d) = pos (length d.users)
count_at (Tank t) = t.level
count_at (Shelf s) = pos (length s.items)

-- there is room for one more to wait
abbrev pub HasPlace : SharedResource → Type 0
HasPlace (Desk d) = 1 ≤ d.spare
HasPlace (Tank t) = (1 ≤ t.spare_puts) × (1 ≤ t.spare_gets)
HasPlace (Shelf s) = (1 ≤ s.spare_puts) × (1 ≤ s.spare_gets)

-- the same but for its room
abbrev pub without_room : SharedResource → SharedResource
without_room (Desk d) = Desk (record d { spare = 0 })
without_room (Tank t) = Tank (record t { spare_puts = 0; spare_gets = 0 })
without_room (Shelf s) = Shelf (record s { spare_puts = 0; spare_gets = 0 })
