use Rattle.std.proofs.Common.{refl, subst}
use Rattle.sim_kernel.specs.Walks.{BeginsOn}
use Rattle.sim_bodies.specs.Customers.{counter_facts, customer_body}
use Rattle.sim_bodies.proofs.FitsByTest.{fits_by}
use Rattle.sim_counter.specs.Opening.{six_customers}
use Rattle.sim_counter.proofs.print_visits.Goals as goal

pub new-requires-clause-fits : goal.new-requires-clause-fits
new-requires-clause-fits g c = rw c.in_ok-setup.ensures (fits_by counter_facts six_customers refl)

-- nothing is left of the journal, as nothing arrives
pub write_run-requires-clause-opening : goal.write_run-requires-clause-opening
write_run-requires-clause-opening g c =
    let opened = c.in_ok-walk.ensures in
    record {
      units = opened.units;
      begins = subst (λ left. BeginsOn customer_body left c.in_ok-walk.walk) opened.begins.left opened.begins;
    }
