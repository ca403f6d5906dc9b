use Rattle.sim_machine_law.proofs.RunLaws.MadeUnits.{made_at_most, made_same, made_on, made_whole, units_of_run}
use Rattle.sim_machine_law.proofs.limits.made_units.Goals as goal

pub returns-clause-at_most : goal.returns-clause-at_most
returns-clause-at_most g c = λ r. made_at_most r.plan r.turn r.journal

pub returns-clause-same_run : goal.returns-clause-same_run
returns-clause-same_run g c = λ r. made_same r.plan r.turn r.journal

pub returns-clause-each : goal.returns-clause-each
returns-clause-each g c = λ r. made_on r.plan r.turn r.journal

pub returns-clause-whole : goal.returns-clause-whole
returns-clause-whole g c = λ r. made_whole r.plan r.turn r.journal

pub returns-clause-units : goal.returns-clause-units
returns-clause-units g c = λ r. units_of_run r.plan r.turn r.journal
