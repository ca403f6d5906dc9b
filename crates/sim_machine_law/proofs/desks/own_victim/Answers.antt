use Rattle.sim_machine_law.proofs.Requests.KeptUses.{uses_kept}
use Rattle.sim_machine_law.proofs.desks.own_victim.Goals as goal

pub returns : goal.returns
returns c = record { keeps_uses = uses_kept }
