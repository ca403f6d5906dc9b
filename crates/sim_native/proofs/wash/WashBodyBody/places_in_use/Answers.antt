use Rattle.sim_native.proofs.WashPlaces.{car_rest, street_rest}
use Rattle.sim_native.proofs.wash.WashBodyBody.places_in_use.Goals as goal

pub returns-in-Car-clause-rest : goal.returns-in-Car-clause-rest
returns-in-Car-clause-rest c =
    let x = c.self.inside in
    rw (← c.self.view_is, c.in-Car.is) (car_rest x.me x.val.value c.in-Car.field-0 c.in-Car.field-1 c.in-Car.field-2)

pub returns-in-Street-clause-rest : goal.returns-in-Street-clause-rest
returns-in-Street-clause-rest c =
    let x = c.self.inside in
    rw (← c.self.view_is, c.in-Street.is) (street_rest x.me x.val.value c.in-Street.field-0 c.in-Street.field-1 c.in-Street.field-2)
