use Rattle.sim_machine.specs.Runs.{end_of}
use Rattle.sim_machine_law.specs.Courses.{course_after}
use Rattle.sim_machine_law.proofs.RunLaws.TraceLaws.{next_lines, trace_begins, trace_ended, trace_is}
use Rattle.sim_machine_law.proofs.RunLaws.UnitLaws.{some_end}
use Rattle.sim_machine_law.proofs.runs.trace_grows.Goals as goal

pub returns-clause-next : goal.returns-clause-next
returns-clause-next g c r n = next_lines r.plan r.turn r.journal n

pub returns-clause-last : goal.returns-clause-last
returns-clause-last g c r n = trace_is r.plan (course_after r n)

pub returns-clause-begins : goal.returns-clause-begins
returns-clause-begins g c r n k = trace_begins r.plan r.turn r.journal n k

pub returns-clause-ended : goal.returns-clause-ended
returns-clause-ended g c r n k ended =
    let why = some_end (end_of r.plan (course_after r n)) ended in
    trace_ended r.plan r.turn r.journal n k why.0 why.1
