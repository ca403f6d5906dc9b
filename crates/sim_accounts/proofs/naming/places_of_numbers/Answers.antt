use Rattle.sim_accounts.proofs.NumberPlaces.{places_alike}
use Rattle.sim_accounts.proofs.naming.places_of_numbers.Goals as goal

pub returns : goal.returns
returns g c = record { same = places_alike }
