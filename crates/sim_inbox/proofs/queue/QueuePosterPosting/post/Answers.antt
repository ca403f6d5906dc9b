use Rattle.sim_inbox.proofs.Deliveries.{pushes}
use Rattle.sim_inbox.proofs.queue.QueuePosterPosting.post.Goals as goal

pub push_as-requires-clause-rule : goal.push_as-requires-clause-rule
push_as-requires-clause-rule g c = λ n.
    let h = c.self.invariant.1 in
    pushes n c.self.inside.pass.id c.self.inside.pass.me.view.client (record { poster = c.self.inside.number; serial = c.self.inside.count; item = c.args.item }) h.is_poster h.number_is h.count_is
