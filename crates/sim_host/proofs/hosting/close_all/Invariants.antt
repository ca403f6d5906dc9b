use Rattle.std.proofs.Common.{vec_len}
use Rattle.sim_host.proofs.hosting.close_all.Given as goal

abbrev pub decreases-loop-run : goal.decreases-loop-run
decreases-loop-run l = vec_len l.runs
