use Rattle.std.proofs.Common.{rules, w64, FitsSigned}
use Rattle.std.proofs.lemmas.Int.{to_z-of_z}
use Rattle.sim_stores.proofs.stock.Stock.take.Goals as goal

pub returns-in-Filter-clause-given : goal.returns-in-Filter-clause-given
returns-in-Filter-clause-given c =
    let least : FitsSigned w64 c.args.least = search rules in
    let greatest : FitsSigned w64 c.args.greatest = search rules in
    let given = rw (to_z-of_z w64 c.args.least least, to_z-of_z w64 c.args.greatest greatest) at c.take_within.ensures.given in
    rw c.in-Filter.is given
