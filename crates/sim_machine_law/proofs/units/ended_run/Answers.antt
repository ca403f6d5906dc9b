use Rattle.sim_machine.specs.Runs.{end_of, opening_course}
use Rattle.sim_machine_law.specs.Courses.{course_after}
use Rattle.sim_machine_law.proofs.RunLaws.UnitLaws.{ended_stays, ended_stays_on, some_end}
use Rattle.sim_machine_law.proofs.units.ended_run.Goals as goal

pub returns-clause-unit : goal.returns-clause-unit
returns-clause-unit g c r m ended = let why = some_end (end_of r.plan m) ended in ended_stays r.plan r.turn m why.0 why.1

pub returns-clause-run : goal.returns-clause-run
returns-clause-run g c r n ended k =
    let why = some_end (end_of r.plan (course_after r n)) ended in
    ended_stays_on r.plan r.turn (opening_course r.plan r.journal) n why.0 why.1 k
