use Rattle.sim_shared_law.proofs.Waiters.CancelledEvents.{waits_somewhere}
use Rattle.sim_shared.proofs.shared.Shared.cancel_named.Goals as goal

pub returns-then-cancel_at-clause-waited : goal.returns-then-cancel_at-clause-waited
returns-then-cancel_at-clause-waited c = λ found.
    waits_somewhere c.args.event c.args.self.now.resources c.in_ok-res.res c.cancel_at.result c.cancel_at.ensures.waited c.if-cancel_at.true
