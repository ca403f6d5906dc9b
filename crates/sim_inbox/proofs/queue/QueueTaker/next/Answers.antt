use Rattle.sim_inbox.proofs.Deliveries.{pops, learns}
use Rattle.sim_inbox.proofs.queue.QueueTaker.next.Goals as goal

pub pop_as-requires-clause-rule : goal.pop_as-requires-clause-rule
pop_as-requires-clause-rule g c =
    let id = c.self.inside.pass.id in
    let v = c.self.inside.pass.me.view.client in
    (pops id v c.self.invariant.1, learns id v c.self.invariant.1)
