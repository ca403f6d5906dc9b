use Rattle.sim_machine_law.proofs.RunLaws.UnitLaws.{only_unit, only_run, unit_where_not_ended}
use Rattle.sim_machine_law.proofs.units.one_course.Goals as goal

pub returns-clause-unit : goal.returns-clause-unit
returns-clause-unit g c r m n is = only_unit r.plan r.turn m n is

pub returns-clause-run : goal.returns-clause-run
returns-clause-run g c r limit n is = only_run r.plan r.turn r.journal limit n is

pub returns-clause-goes_on : goal.returns-clause-goes_on
returns-clause-goes_on g c r m h = unit_where_not_ended r.plan r.turn m h.under_way h.alive
