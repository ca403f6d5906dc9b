use Rattle.std.proofs.Common.{◌∙◌, subst, Fits, w32, rules}
use Rattle.sim_outside.specs.Writes.{Writes}
use Rattle.sim_writing.specs.RunFaults.{is_write}
use Rattle.sim_writing.proofs.Wanting.{wanting}
use Rattle.sim_trace.specs.SummaryTexts.{batch_answer}
use Rattle.sim_answer.proofs.Replications.{few_runs}
use Rattle.sim_host.proofs.answer.write_runs.Goals as goal

pub returns-in_err-summaries-clause-writes : goal.returns-in_err-summaries-clause-writes
returns-in_err-summaries-clause-writes g c = wanting _ c.from_residual.result _ c.from_residual.ensures.1

pub write_summaries-requires-clause-few : goal.write_summaries-requires-clause-few
write_summaries-requires-clause-few g c =
    let small : Fits w32 c.args.runs.count = search rules in
    few_runs c.args.scenario.now c.args.runs.limit c.args.runs.count _ (c.as_slice.ensures ∙ c.in_ok-summaries.ensures.summaries) small.fits

pub returns-clause-writes : goal.returns-clause-writes
returns-clause-writes g c =
    subst (λ ss. Writes is_write (g.K.Sink.tells c.args.out.now) (g.K.Sink.tells c.write_summaries.new.out) c.write_summaries.result (batch_answer ss))
    (c.as_slice.ensures ∙ c.in_ok-summaries.ensures.summaries) c.write_summaries.ensures.writes
