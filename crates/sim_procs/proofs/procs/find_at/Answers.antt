use Rattle.sim_procs.proofs.Places.{found_somewhere}
use Rattle.sim_procs.proofs.procs.find_at.Goals as goal

pub set-requires-clause-there : goal.set-requires-clause-there
set-requires-clause-there g c = rw c.id.ensures (found_somewhere c.args.index.now.places c.args.records.now c.args.at c.index-records-at.result c.requires c.if-at-records.true c.index-records-at.is)
