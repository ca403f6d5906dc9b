use Rattle.std.proofs.Common.{◌∙◌, subst}
use Rattle.sim_outside.specs.Writes.{Writes}
use Rattle.sim_writing.specs.RunFaults.{is_write}
use Rattle.sim_writing.proofs.Wanting.{wanting}
use Rattle.sim_trace.specs.SummaryTexts.{batch_answer}
use Rattle.sim_answer.proofs.Replications.{few_runs}
use Rattle.sim_desk.proofs.Replicating.{runs_are}
use Rattle.sim_desk.proofs.replications.write_batch.Goals as goal

pub returns-in_err-summaries-clause-writes : goal.returns-in_err-summaries-clause-writes
returns-in_err-summaries-clause-writes g c = wanting _ c.from_residual.result _ c.from_residual.ensures.1

pub write_summaries-requires-clause-few : goal.write_summaries-requires-clause-few
write_summaries-requires-clause-few g c =
    let runs = c.in_ok-summaries.ensures.answers ∙ runs_are c.args.scenario.now c.args.limit c.args.count in
    few_runs c.args.scenario.now c.args.limit c.args.count _ (c.as_slice.ensures ∙ runs) c.ranges.count.fits

pub returns-clause-writes : goal.returns-clause-writes
returns-clause-writes g c =
    let runs = c.as_slice.ensures ∙ (c.in_ok-summaries.ensures.answers ∙ runs_are c.args.scenario.now c.args.limit c.args.count) in
    subst (λ ss. Writes is_write (g.K.Sink.tells c.args.out.now) (g.K.Sink.tells c.write_summaries.new.out) c.write_summaries.result (batch_answer ss)) runs
    c.write_summaries.ensures.writes
