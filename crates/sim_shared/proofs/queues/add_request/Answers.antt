use Rattle.std.proofs.Common.{◌∙◌}
use Rattle.sim_shared_model.proofs.AmongEvents.{any_of_events}
use Rattle.sim_shared_law.proofs.Waiters.JoinedWaiters.{desk_joined}
use Rattle.sim_shared_law.proofs.Waiters.JoinedEvents.{all_others}
use Rattle.sim_shared.proofs.queues.add_request.Goals as goal

pub join-requires-clause-not_waiting : goal.join-requires-clause-not_waiting
join-requires-clause-not_waiting c =
    let absent = rw c.in-Desk.is at c.requires.absent.waits in
    let q = c.in-Desk.desk.queue in
    all_others (λ w. w.request) c.args.request q (any_of_events (λ w. w.request) c.args.request q ∙ absent)

pub returns-in-Desk : goal.returns-in-Desk
returns-in-Desk c = λ res.
    rw c.in-Desk.is (desk_joined c.in-Desk.desk c.join.new.self res c.args.request c.args.key c.args.process c.join.ensures.queue c.join.ensures.rest)
