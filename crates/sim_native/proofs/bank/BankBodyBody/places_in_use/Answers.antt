use Rattle.sim_native.proofs.BankPlaces.{customer_rest, source_rest}
use Rattle.sim_native.proofs.bank.BankBodyBody.places_in_use.Goals as goal

pub returns-in-Customer-clause-rest : goal.returns-in-Customer-clause-rest
returns-in-Customer-clause-rest c =
    let x = c.self.inside in
    rw (← c.self.view_is, c.in-Customer.is) (customer_rest x.me x.spent c.in-Customer.field-0 c.in-Customer.field-1)

pub returns-in-Source-clause-rest : goal.returns-in-Source-clause-rest
returns-in-Source-clause-rest c =
    let x = c.self.inside in
    rw (← c.self.view_is, c.in-Source.is) (source_rest x.me x.spent c.in-Source.field-0)
