use Rattle.sim_accounts.proofs.ShownUnheld.{open_stays}
use Rattle.sim_accounts.proofs.holders.open_events.Goals as goal

pub returns-clause-kept : goal.returns-clause-kept
returns-clause-kept c = λ alone e f todo events b kept is_open. (open_stays alone e f todo events b kept is_open).0

pub returns-clause-same : goal.returns-clause-same
returns-clause-same c = λ alone e f todo events b kept is_open. (open_stays alone e f todo events b kept is_open).1
