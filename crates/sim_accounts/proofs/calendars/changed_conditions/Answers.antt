use Rattle.sim_accounts.proofs.CalendarChanges.{quietly_condition_made, plainly_checked, plainly_built, after_popped, none_popped}
use Rattle.sim_accounts.proofs.ConditionsMade.{made_members}
use Rattle.sim_accounts.proofs.calendars.changed_conditions.Goals as goal

pub returns-clause-made : goal.returns-clause-made
returns-clause-made c = quietly_condition_made

pub returns-clause-members : goal.returns-clause-members
returns-clause-members c = made_members

pub returns-clause-checked : goal.returns-clause-checked
returns-clause-checked c = plainly_checked

pub returns-clause-built : goal.returns-clause-built
returns-clause-built c = plainly_built

pub returns-clause-popped_after : goal.returns-clause-popped_after
returns-clause-popped_after c = after_popped

pub returns-clause-popped_none : goal.returns-clause-popped_none
returns-clause-popped_none c = none_popped
