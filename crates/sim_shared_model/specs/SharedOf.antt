-- What contracts see of time, what happens in it, and the resources that share it.
use Rattle.std.specs.Prelude.{◌≡◌, ℕ, List, Option, map}
use Rattle.sim_types.specs.declared.setup.Resource.{Resource}
use Rattle.sim_happen_model.specs.HappenOf.{HappenOf}
use Rattle.sim_shared_model.specs.AnyShared.{SharedResource}
use Rattle.sim_shared_model.specs.Resources.{without_room}

-- the resources stand by their places in the setup that they were opened with. Each has room for one more to wait, but for
-- the one that is remembered as used, if there is one
pub record SharedOf : Type 0 where
  pub happen : HappenOf
  pub resources : List SharedResource
  pub setup : List Resource
  pub used : Option ℕ

-- all is as before but for room
pub record IsSameButRoom (old new : SharedOf) : Type 0 where
  pub happen : new.happen ≡ record old.happen { spare = new.happen.spare }
  pub resources : map without_room new.resources ≡ map without_room old.resources
  pub setup : new.setup ≡ old.setup
