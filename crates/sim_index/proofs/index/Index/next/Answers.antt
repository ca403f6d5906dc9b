use Rattle.std.proofs.Common.{sym}
use Rattle.sim_index.proofs.Keeping.{length_places}
use Rattle.sim_index.proofs.index.Index.next.Goals as goal

pub returns : goal.returns
returns c = rw (← c.self.view_is) (sym (length_places _ _))
