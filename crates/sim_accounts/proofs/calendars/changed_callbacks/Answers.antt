use Rattle.std.proofs.Common.{refl}
use Rattle.sim_machine.specs.Events.{register}
use Rattle.sim_accounts.proofs.CalendarChanges.{after_events, none_events, plainly_registered, plainly_unregistered}
use Rattle.sim_accounts.proofs.calendars.changed_callbacks.Goals as goal

pub returns-clause-registered : goal.returns-clause-registered
returns-clause-registered c = plainly_registered

pub returns-clause-unregistered : goal.returns-clause-unregistered
returns-clause-unregistered c = plainly_unregistered

pub returns-clause-any_after : goal.returns-clause-any_after
returns-clause-any_after c = λ e x d. after_events d (register e x d) refl

pub returns-clause-any_none : goal.returns-clause-any_none
returns-clause-any_none c = λ e x d. none_events d (register e x d) refl
