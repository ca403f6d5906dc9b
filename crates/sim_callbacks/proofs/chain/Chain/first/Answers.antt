use Rattle.sim_callbacks.proofs.Relinking.{last_there}
use Rattle.sim_callbacks.proofs.chain.Chain.first.Goals as goal

pub index-requires : goal.index-requires
index-requires c = last_there _ _ c.requires c.if-self-eq0.false
