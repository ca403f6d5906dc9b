use Rattle.sim_accounts.proofs.NamedEvents.{held_for_good, held_in_process, held_in_body, held_in_scope, held_triggered}
use Rattle.sim_accounts.proofs.holders.reasons.Goals as goal

pub returns-clause-named : goal.returns-clause-named
returns-clause-named g c = held_for_good

pub returns-clause-processed : goal.returns-clause-processed
returns-clause-processed g c = held_in_process

pub returns-clause-body : goal.returns-clause-body
returns-clause-body g c = held_in_body

pub returns-clause-scope : goal.returns-clause-scope
returns-clause-scope g c = held_in_scope

pub returns-clause-triggered : goal.returns-clause-triggered
returns-clause-triggered g c = held_triggered
