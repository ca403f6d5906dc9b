use Rattle.std.proofs.Common.{length}
use Rattle.sim_trials.proofs.records.spend.Given as goal

abbrev pub decreases-loop-scope : goal.decreases-loop-scope
decreases-loop-scope l = length l.process.scopes
