use Rattle.std.proofs.Common.{◌≡◌, take}
use Rattle.sim_trace.specs.SummaryTexts.{all_logs, all_total}
use Rattle.sim_answer.proofs.sums.sums_of.Given as goal

-- the sums over the runs so far
abbrev pub invariant-loop-run : goal.invariant-loop-run
invariant-loop-run l =
    record {
      logs : l.sums.logs ≡ all_logs (take l.run-index l.runs);
      total : l.sums.total ≡ all_total (take l.run-index l.runs);
    }
