-- What the layer below leaves that was lent.
use Rattle.std.specs.Borrow.{Lends, MutBor, Fml}
use Rattle.sim_happen_model.specs.HappenOf.{HappenOf}
use Rattle.sim_happen.specs.contracts.happen.Happen.{the_row as happen_row}
use Rattle.sim_shared_model.specs.SharedOf.{SharedOf}
use Rattle.sim_shared.specs.contracts.shared.Shared.{the_row as shared_row}

-- all ends as it is, with the last value behind r as what happens
abbrev pub LendsHappen : MutBor SharedOf → MutBor HappenOf → Fml
LendsHappen s r = Lends shared_row happen_row s r (λ h. record s.now { happen = h })
