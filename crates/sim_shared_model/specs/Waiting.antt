-- Who waits anywhere, as far as it is seen.
use Rattle.std.specs.Prelude.{Bool, ◌≡◌, ◌≢◌, false, ℕ, ◌+◌, ◌<◌, ◌≤◌, List, length, slice_get, Option, Some, None, All, IsTrue, if◌then◌else◌}
use Rattle.std.specs.List.{list_any}
use Rattle.sim_types.specs.declared.event.EventId.{EventId}
use Rattle.sim_happen_model.specs.TableOf.{kept_count}
use Rattle.sim_happen_model.specs.HappenOf.{HappenOf, IsOpen, gone_if_unheld}
use Rattle.sim_shared_model.specs.Attempts.{waiting_but}
use Rattle.sim_shared_model.specs.StoreQueues.{stands_among}
use Rattle.sim_shared_model.specs.Tanks.{tank_besides}
use Rattle.sim_shared_model.specs.Shelves.{shelf_besides}
use Rattle.sim_shared_model.specs.AnyShared.{SharedResource}
use Rattle.sim_shared_model.specs.declared.resource.AnyResource.TheVariants.{Desk, Tank, Shelf}
use Rattle.sim_shared_model.specs.Resources.{waiting_at}
use Rattle.sim_shared_model.specs.SharedOf.{SharedOf}

-- whether the event waits at a resource
abbrev pub waits_at : EventId → SharedResource → Bool
waits_at e x = stands_among e (waiting_at x)

-- whether it waits at a resource, if there is one
abbrev pub waits_in : EventId → Option SharedResource → Bool
waits_in e None = false
waits_in e (Some x) = waits_at e x

-- whether it waits anywhere
abbrev pub waits_anywhere : EventId → List SharedResource → Bool
waits_anywhere e xs = list_any (waits_at e) xs

-- the event waits there no longer
abbrev pub besides_at : EventId → SharedResource → SharedResource
besides_at e (Desk d) = Desk (record d { queue = waiting_but e d.queue })
besides_at e (Tank t) = Tank (tank_besides e t)
besides_at e (Shelf s) = Shelf (shelf_besides e s)

-- each event that waits is kept, pending and not cancelled
pub record AreAllOpen (h : SharedOf) : Type 0 where
  pub each : (res : ℕ) (x : SharedResource) → slice_get h.resources res ≡ Some x → All (IsOpen h.happen) (waiting_at x)

-- an event that waited goes where nobody holds it
abbrev pub gone_if_waits : Bool → EventId → List (Option ℕ) → List (Option ℕ)
gone_if_waits waited e hs = if waited then gone_if_unheld e hs else hs

-- the event waits at the resource of this place
pub record IsWaitingAt (e : EventId) (res : ℕ) (h : SharedOf) : Type 0 where
  pub within : res < length h.setup
  pub waits : IsTrue (waits_in e (slice_get h.resources res))

-- the event waits nowhere but at this place, if anywhere
pub record WaitsAtMostAt (e : EventId) (res : ℕ) (h : SharedOf) : Type 0 where
  pub elsewhere : (n : ℕ) (x : SharedResource) → n ≢ res → slice_get h.resources n ≡ Some x → waits_at e x ≡ false

-- where an event may have gone, and one was made with a callback, the room that they had or took is accounted for
pub record LeavesRoom (old new : HappenOf) : Type 0 where
  pub events : kept_count new.events + new.spare.events ≡ kept_count old.events + old.spare.events
  pub never_less : old.spare.events ≤ new.spare.events + 1
  pub callbacks : old.spare.callbacks ≤ new.spare.callbacks + 1
  pub conditions : old.spare.conditions ≤ new.spare.conditions
