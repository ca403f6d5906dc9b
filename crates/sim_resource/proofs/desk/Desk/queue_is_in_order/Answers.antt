use Rattle.sim_resource.proofs.MachineQueues.{kept_in_order}
use Rattle.sim_resource.proofs.desk.Desk.queue_is_in_order.Goals as goal

pub returns : goal.returns
returns c = λ res.
    rw (← c.self.view_is) (kept_in_order c.self.inside.kind res c.self.inside.queue.items c.self.invariant.0.by_keys)
