-- What the type of the resources keeps.
use Rattle.std.specs.Prelude.{◌≡◌, ◌≢◌, ℕ, ◌<◌, ◌^◌, List, map, length, slice_get, Option, Some, IfSome}
use Rattle.std.specs.List.{AllPass}
use Rattle.sim_types.specs.Setups.{resource_fits}
use Rattle.sim_types.specs.declared.setup.Resource.{Resource}
use Rattle.sim_shared_model.specs.AnyShared.{SharedResource}
use Rattle.sim_shared_model.specs.Resources.{HasPlace, declared_as, without_opening}

-- the one that was used is there, and each other has room for one more to wait
pub record HavePlaces (used : Option ℕ) (xs : List SharedResource) : Type 0 where
  pub within : IfSome used (λ n. n < length xs)
  pub others : (n : ℕ) (x : SharedResource) → slice_get xs n ≡ Some x → used ≢ Some n → HasPlace x

-- the resources are those of the setup, by kind and capacity, whose numbers are in their ranges, and have their places. They
-- are so few that 32 bits tell the place of each
pub record IsSoundShared (used : Option ℕ) (xs : List SharedResource) (rs : List Resource) : Type 0 where
  pub opened : map declared_as xs ≡ map without_opening rs
  pub fit : AllPass resource_fits rs
  pub few : length rs < 2 ^ 32
  pub places : HavePlaces used xs
