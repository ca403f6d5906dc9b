use Rattle.std.proofs.Common.{pos}
use Rattle.sim_types.specs.declared.line.End.TheVariants as end
use Rattle.sim_types.specs.declared.line.Summary.{Summary}
use Rattle.sim_answer.proofs.Summing.{logs_on, total_on, next_within}
use Rattle.sim_answer.proofs.sums.sums_of.Goals as goal

-- what stands for a run where there is none
blank : Summary
blank = record { end = end.Empty; time = pos 0; processed = 0; logs = 0; total = pos 0 }

pub add-requires : goal.add-requires
add-requires c =
    rw (c.loop-run.invariant.logs, c.loop-run.invariant.total)
    (next_within c.args.limit c.args.runs.now c.loop-run.run-index _ c.requires.within c.requires.few c.ranges.limit.fits c.loop-run-test.true)

pub loop-run-preserved : goal.loop-run-preserved
unfolding blank
loop-run-preserved c =
    let runs = c.args.runs.now in
    let i = c.loop-run.run-index in
    record {
      logs = logs_on runs i blank c.loop-run-test.true _ _ c.add.ensures.logs c.loop-run.invariant.logs;
      total = total_on runs i blank c.loop-run-test.true _ _ c.add.ensures.total c.loop-run.invariant.total;
    }
