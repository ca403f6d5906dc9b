use Rattle.sim_native.proofs.ShopPlaces.{breaker_rest, machine_rest, filler_rest, chief_rest}
use Rattle.sim_native.proofs.shop.ShopBodyBody.places_in_use.Goals as goal

pub returns-in-Breaker-clause-rest : goal.returns-in-Breaker-clause-rest
returns-in-Breaker-clause-rest c =
    let x = c.self.inside in
    rw (← c.self.view_is, c.in-Breaker.is) (breaker_rest x.machines.value x.me x.val.value c.in-Breaker.field-0 c.in-Breaker.field-1)

pub returns-in-Machine-clause-rest : goal.returns-in-Machine-clause-rest
returns-in-Machine-clause-rest c =
    let x = c.self.inside in
    rw (← c.self.view_is, c.in-Machine.is) (machine_rest x.machines.value x.me x.val.value c.in-Machine.field-0 c.in-Machine.field-1)

pub returns-in-Filler-clause-rest : goal.returns-in-Filler-clause-rest
returns-in-Filler-clause-rest c =
    let x = c.self.inside in
    rw (← c.self.view_is, c.in-Filler.is) (filler_rest x.machines.value x.me x.val.value c.in-Filler.field-0 c.in-Filler.field-1)

pub returns-in-Chief-clause-rest : goal.returns-in-Chief-clause-rest
returns-in-Chief-clause-rest c =
    let x = c.self.inside in
    rw (← c.self.view_is, c.in-Chief.is) (chief_rest x.machines.value x.me x.val.value c.in-Chief.field-0 c.in-Chief.field-1)
