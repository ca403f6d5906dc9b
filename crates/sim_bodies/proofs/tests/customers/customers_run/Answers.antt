use Rattle.std.proofs.Common.{refl}
use Rattle.sim_bodies.specs.Customers.{counter_facts}
use Rattle.sim_bodies.proofs.FitsByTest.{fits_by}
use Rattle.sim_bodies.proofs.tests.customers.customers_run.Goals as goal

pub lines_of_run-requires : goal.lines_of_run-requires
lines_of_run-requires c = record { fits = rw c.in_ok-setup.ensures (fits_by counter_facts _ refl) }
