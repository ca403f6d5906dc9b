use Rattle.std.proofs.Common.{vec_len}
use Rattle.sim_procs.proofs.procs.Procs.abandon.Given as goal

abbrev pub decreases-loop-record : goal.decreases-loop-record
decreases-loop-record g l = vec_len l.records
