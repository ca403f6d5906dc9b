use Rattle.std.proofs.Common.{◌≡◌, ◌≤◌}
use Rattle.std.specs.Prelude.{All}
use Rattle.sim_batch.specs.Batches.{answers_between}
use Rattle.sim_batch.proofs.shares.answer_between.Given as goal

abbrev pub invariant-loop-index : goal.invariant-loop-index
invariant-loop-index g l =
    record {
      begun : l.first ≤ l.index;
      answers : l.summaries.items ≡ answers_between (g.J.Job.answer l.job) l.first l.index;
      kept : All (g.J.Job.keeps l.job) l.summaries.items;
    }
