use Rattle.std.proofs.Common.{sym}
use Rattle.std.proofs.lemmas.Bool.{false≢true}
use Rattle.sim_shared_law.proofs.Waiters.CancelledEvents.{nowhere_in, unopen_nowhere}
use Rattle.sim_shared.proofs.shared.Shared.cancel_open_at.Goals as goal

-- what is not open waits nowhere
pub returns-then-not-is_open-clause-waited : goal.returns-then-not-is_open-clause-waited
returns-then-not-is_open-clause-waited c =
    let nowhere = unopen_nowhere c.args.self.now c.args.event c.requires.open (λ is. false≢true (c.if-not-is_open.ensures.1 is)) in
    sym (nowhere_in c.args.event c.args.self.now.resources c.args.at nowhere)
