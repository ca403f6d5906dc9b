use Rattle.std.proofs.Common.{sym, ◌∙◌}
use Rattle.sim_callbacks.proofs.Links.{without_none}
use Rattle.sim_callbacks.proofs.Finding.{found_any, found_without}
use Rattle.sim_callbacks.proofs.chain.Chain.take_out.Goals as goal

pub returns-in-Some-clause-found : goal.returns-in-Some-clause-found
returns-in-Some-clause-found c = sym (found_any _ _ _ c.in-Some.found c.in-Some.ensures)

pub returns-in-Some-clause-callbacks : goal.returns-in-Some-clause-callbacks
returns-in-Some-clause-callbacks c = c.unlink.ensures.callbacks ∙ found_without _ _ _ c.in-Some.found c.in-Some.ensures

pub returns-in-None-clause-callbacks : goal.returns-in-None-clause-callbacks
returns-in-None-clause-callbacks c = sym (without_none _ _ c.in-None.ensures)
