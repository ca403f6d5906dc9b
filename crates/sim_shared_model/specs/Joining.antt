-- One more that waits at a resource, behind all others.
use Rattle.std.specs.Prelude.{◌≡◌, ℕ, List, [], ◌∷◌, ◌++◌, slice_get, slice_set, Some, IsFalse}
use Rattle.sim_types.specs.declared.event.EventId.{EventId}
use Rattle.sim_types.specs.declared.setup.Resource.{Resource}
use Rattle.sim_machine.specs.State.{Waiter, Facilities}
use Rattle.sim_machine.specs.Users.{resource_at}
use Rattle.sim_shared_model.specs.AnyShared.{SharedResource}
use Rattle.sim_shared_model.specs.Resources.{declared_as, without_opening}
use Rattle.sim_shared_model.specs.SharedOf.{SharedOf}
use Rattle.sim_shared_model.specs.ShowsAll.{ShowsAt}
use Rattle.sim_shared_model.specs.Using.{uses_at}
use Rattle.sim_shared_model.specs.Waiting.{waits_at}

-- the event neither waits at this resource nor uses it
pub record IsAbsentAt (e : EventId) (x : SharedResource) : Type 0 where
  pub waits : IsFalse (waits_at e x)
  pub uses : IsFalse (uses_at e x)

-- it does so at no resource
pub record IsAbsent (e : EventId) (h : SharedOf) : Type 0 where
  pub each : (res : ℕ) (x : SharedResource) → slice_get h.resources res ≡ Some x → IsAbsentAt e x

-- this waits too, and came after all others
abbrev pub with_waiter : Waiter → Facilities → Facilities
with_waiter w f = record f { waiters = f.waiters ++ w ∷ [] }

-- a resource once this waits at it: whatever facilities were shown by it, they are shown with one more that waits
pub record IsJoined (w : Waiter) (old new : SharedResource) : Type 0 where
  pub declared : declared_as new ≡ declared_as old
  pub shown : (rs : List Resource) (f : Facilities) → declared_as old ≡ without_opening (resource_at rs w.res)
      → ShowsAt rs w.res old f → ShowsAt rs w.res new (with_waiter w f)

-- this waits at the resource of its place, whose room for one more to wait is used
pub record IsJoinedAt (w : Waiter) (old new : SharedOf) : Type 0 where
  pub before : SharedResource
  pub after : SharedResource
  pub there : slice_get old.resources w.res ≡ Some before
  pub joined : IsJoined w before after
  pub rest : new ≡ record old { resources = slice_set old.resources w.res after; used = Some w.res }
