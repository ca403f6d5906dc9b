-- A resource of any kind, by what contracts see of desks, containers and stores.
use Rattle.sim_shared_model.specs.declared.resource.AnyResource.{AnyResource}
use Rattle.sim_shared_model.specs.DeskOf.{DeskOf}
use Rattle.sim_shared_model.specs.Tanks.{TankOf}
use Rattle.sim_shared_model.specs.Shelves.{ShelfOf}

abbrev pub SharedResource : Type 0
SharedResource = AnyResource DeskOf TankOf ShelfOf
