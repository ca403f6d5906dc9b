use Rattle.std.proofs.Common.{refl}
use Rattle.sim_machine_law.proofs.Requests.MadeInterruptions.{throws, is_defused, urgent_now}
use Rattle.sim_machine_law.proofs.desks.preemptions.Goals as goal

pub returns-clause-throws : goal.returns-clause-throws
returns-clause-throws c = λ res u f. throws u.process (record { kind = 2; value = u.since }) f.calendar

pub returns-clause-defused : goal.returns-clause-defused
returns-clause-defused c = λ res u f. is_defused u.process (record { kind = 2; value = u.since }) f.calendar

pub returns-clause-strikes : goal.returns-clause-strikes
returns-clause-strikes c = λ res u f. refl

pub returns-clause-urgent : goal.returns-clause-urgent
returns-clause-urgent c = λ res u f. urgent_now u.process (record { kind = 2; value = u.since }) f.calendar

pub returns-clause-waiters : goal.returns-clause-waiters
returns-clause-waiters c = λ res u f. refl
