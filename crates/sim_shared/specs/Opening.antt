-- Resources as they open: nobody waits or uses, and a container alone has something in it.
use Rattle.std.specs.Prelude.{◌≡◌, ℕ, List, [], map, slice_get, Some}
use Rattle.sim_types.specs.declared.setup.Resource.{Resource}
use Rattle.sim_machine.specs.State.{Facilities}
use Rattle.sim_machine.specs.Runs.{first_calendar}
use Rattle.sim_machine.specs.Users.{resource_at}
use Rattle.sim_shared_model.specs.AnyShared.{SharedResource}
use Rattle.sim_shared_model.specs.declared.resource.AnyResource.TheVariants.{Desk, Tank, Shelf}
use Rattle.sim_shared_model.specs.Resources.{HasPlace, declared_as, without_opening}

-- the facilities of the machine as a run begins, before anything was made: event 0 alone is there
abbrev pub first_facilities : Facilities
first_facilities = record { calendar = first_calendar 0; waiters = []; ledger = [] }

-- nothing was done yet at a resource
abbrev pub IsUntouched : Resource → SharedResource → Type 0
IsUntouched r (Desk d) = (d.queue ≡ []) × (d.users ≡ [])
IsUntouched r (Tank t) = (t.puts ≡ []) × (t.gets ≡ []) × (t.level ≡ r.opening)
IsUntouched r (Shelf s) = (s.puts ≡ []) × (s.gets ≡ []) × (s.items ≡ [])

-- it has just been opened, with room for one to wait
pub record IsOpened (r : Resource) (x : SharedResource) : Type 0 where
  pub declared : declared_as x ≡ without_opening r
  pub untouched : IsUntouched r x
  pub place : HasPlace x

-- these of the resources have been opened
pub record AreOpened (rs : List Resource) (xs : List SharedResource) : Type 0 where
  pub declared : map declared_as xs ≡ map without_opening rs
  pub each : (n : ℕ) (x : SharedResource) → slice_get xs n ≡ Some x → IsOpened (resource_at rs n) x
