use Rattle.sim_accounts.proofs.FacilityChanges.{plainly_requested, plainly_put, plainly_get, plainly_tried_put, plainly_tried_get, plainly_cancelled_waiter, plainly_released, plainly_left}
use Rattle.sim_accounts.proofs.calendars.changed_facilities.Goals as goal

pub returns-clause-requested : goal.returns-clause-requested
returns-clause-requested c = plainly_requested

pub returns-clause-put : goal.returns-clause-put
returns-clause-put c = plainly_put

pub returns-clause-got : goal.returns-clause-got
returns-clause-got c = plainly_get

pub returns-clause-tried_put : goal.returns-clause-tried_put
returns-clause-tried_put c = plainly_tried_put

pub returns-clause-tried_get : goal.returns-clause-tried_get
returns-clause-tried_get c = plainly_tried_get

pub returns-clause-cancelled : goal.returns-clause-cancelled
returns-clause-cancelled c = plainly_cancelled_waiter

pub returns-clause-released : goal.returns-clause-released
returns-clause-released c = plainly_released

pub returns-clause-left : goal.returns-clause-left
returns-clause-left c = plainly_left
