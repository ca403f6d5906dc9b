use Rattle.sim_inbox.proofs.Deliveries.{merges}
use Rattle.sim_inbox.proofs.queue.QueueTaker.join.Goals as goal

pub absorb-requires-clause-rule : goal.absorb-requires-clause-rule
absorb-requires-clause-rule g c =
    merges c.self.inside.pass.id c.poster.inside.pass.id c.self.inside.pass.me.view.client c.poster.inside.pass.me.view.client c.self.invariant.1 c.poster.invariant.1.is_poster
