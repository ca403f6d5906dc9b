use Rattle.std.proofs.Common.{ap, ◌∙◌}
use Rattle.sim_machine.specs.Requests.{is_of}
use Rattle.sim_shared_model.specs.DeskOf.{waiting_by}
use Rattle.sim_shared_law.proofs.Waiters.JoinedWaiters.{victim_shown}
use Rattle.sim_shared.proofs.queues.own_victim.Goals as goal

pub returns-in-Desk : goal.returns-in-Desk
returns-in-Desk c = λ rs res event f same shown.
    let d = c.in-Desk.desk in
    c.own_victim.ensures res event ∙ ap (is_of c.args.process) (victim_shown rs res d f (waiting_by event c.args.key c.args.process) (rw c.in-Desk.is at same) (rw c.in-Desk.is at shown))
