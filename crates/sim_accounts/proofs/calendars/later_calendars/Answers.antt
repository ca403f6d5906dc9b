use Rattle.sim_accounts.proofs.CalendarChanges.{plainly_same, after_then, quietly_then, plainly_then}
use Rattle.sim_accounts.proofs.calendars.later_calendars.Goals as goal

pub returns-clause-itself : goal.returns-clause-itself
returns-clause-itself c = plainly_same

pub returns-clause-after : goal.returns-clause-after
returns-clause-after c = after_then

pub returns-clause-quietly : goal.returns-clause-quietly
returns-clause-quietly c = quietly_then

pub returns-clause-plainly : goal.returns-clause-plainly
returns-clause-plainly c = plainly_then
