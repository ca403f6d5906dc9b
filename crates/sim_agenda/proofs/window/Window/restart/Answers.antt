use Rattle.std.proofs.Common.{map}
use Rattle.sim_agenda.proofs.Turning.{ring_moved}
use Rattle.sim_agenda.proofs.window.Window.restart.Goals as goal

pub invariant_of-self : goal.invariant_of-self
invariant_of-self c =
    let inside = c.self.inside in
    ring_moved (map (λ q. q.items) inside.queues.items) inside.turn inside.start inside.first inside.len c.self.invariant _ c.if-self-eq0.true
