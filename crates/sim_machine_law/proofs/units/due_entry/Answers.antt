use Rattle.sim_machine_law.proofs.Events.AgendaLaws.{due_contained, due_first, due_only}
use Rattle.sim_machine_law.proofs.units.due_entry.Goals as goal

pub returns-clause-contained : goal.returns-clause-contained
returns-clause-contained c = due_contained

pub returns-clause-first : goal.returns-clause-first
returns-clause-first c = due_first

pub returns-clause-no_other : goal.returns-clause-no_other
returns-clause-no_other c es x h = due_only es x h.apart h.contained h.first
