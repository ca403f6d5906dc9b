use Rattle.sim_machine.specs.Trying as trying
use Rattle.sim_shared_law.proofs.Waiters.MadeEvents.{makes_none}
use Rattle.sim_shared.proofs.shared.Shared.try_put.Goals as goal

pub returns-else-has_slots-clause-tried : goal.returns-else-has_slots-clause-tried
returns-else-has_slots-clause-tried c =
    makes_none 1 (trying.try_put c.args.self.now.setup c.args.res) c.args.self.now c.try_puts.new.self c.try_puts.ensures.tried c.try_puts.ensures.spare
