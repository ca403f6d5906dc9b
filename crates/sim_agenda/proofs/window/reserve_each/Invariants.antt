use Rattle.std.proofs.Common.{◌≡◌, map}
use Rattle.sim_agenda.proofs.window.reserve_each.Given as goal

abbrev pub invariant-loop-queue : goal.invariant-loop-queue
invariant-loop-queue l = map (λ q. q.items) l.queues ≡ map (λ q. q.items) l.initial.queues
