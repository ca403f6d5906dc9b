use Rattle.sim_accounts.proofs.CalendarChanges.{plainly_made, plainly_scheduled, plainly_passed, plainly_defused, plainly_defused_failed, plainly_cancelled, plainly_timeout, plainly_interruption, plainly_process, plainly_stop}
use Rattle.sim_accounts.proofs.calendars.changed_events.Goals as goal

pub returns-clause-made : goal.returns-clause-made
returns-clause-made c = plainly_made

pub returns-clause-scheduled : goal.returns-clause-scheduled
returns-clause-scheduled c = plainly_scheduled

pub returns-clause-passed : goal.returns-clause-passed
returns-clause-passed c = plainly_passed

pub returns-clause-defused : goal.returns-clause-defused
returns-clause-defused c = plainly_defused

pub returns-clause-defused_failed : goal.returns-clause-defused_failed
returns-clause-defused_failed c = plainly_defused_failed

pub returns-clause-cancelled : goal.returns-clause-cancelled
returns-clause-cancelled c = plainly_cancelled

pub returns-clause-timeout : goal.returns-clause-timeout
returns-clause-timeout c = plainly_timeout

pub returns-clause-interruption : goal.returns-clause-interruption
returns-clause-interruption c = plainly_interruption

pub returns-clause-process : goal.returns-clause-process
returns-clause-process c = plainly_process

pub returns-clause-stop : goal.returns-clause-stop
returns-clause-stop c = plainly_stop
