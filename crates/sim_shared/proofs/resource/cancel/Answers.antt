use Rattle.std.proofs.Common.{◌∙◌}
use Rattle.sim_shared_model.proofs.AmongEvents.{any_of_events}
use Rattle.sim_shared.proofs.resource.cancel.Goals as goal

pub returns-in-Desk-clause-waited : goal.returns-in-Desk-clause-waited
returns-in-Desk-clause-waited c =
    rw c.in-Desk.is (c.leave.ensures.waited ∙ any_of_events (λ w. w.request) c.args.event c.in-Desk.desk.queue)
