use Rattle.sim_inbox.proofs.Deliveries.{begins}
use Rattle.sim_inbox.proofs.queue.opening.new_queue.Goals as goal

pub with_rule-requires : goal.with_rule-requires
with_rule-requires g c = begins
