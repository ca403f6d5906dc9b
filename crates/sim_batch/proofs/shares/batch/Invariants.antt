use Rattle.std.proofs.Common.{◌≡◌, ◌*◌, ◌/◌}
use Rattle.std.specs.Prelude.{All}
use Rattle.sim_batch.specs.Batches.{answers_of}
use Rattle.sim_batch.proofs.shares.batch.Given as goal

-- so far there are the answers of the first shares
abbrev pub invariant-loop-answer : goal.invariant-loop-answer
invariant-loop-answer g l =
    record {
      answers : l.summaries.items ≡ answers_of (g.J.Job.answer l.job) (l.answer-index * l.fn.count / l.shares);
      kept : All (g.J.Job.keeps l.job) l.summaries.items;
    }
