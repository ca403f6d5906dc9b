use Rattle.std.proofs.Common.{◌∙◌}
use Rattle.sim_models.specs.Wash.{wash}
use Rattle.sim_writing.proofs.Wanting.{wanting}
use Rattle.sim_native.proofs.NativeRuns.{at_opening, tells_end, writes_trace}
use Rattle.sim_native.proofs.runs.run_wash.Goals as goal

pub returns-in_err-setup-clause-writes : goal.returns-in_err-setup-clause-writes
returns-in_err-setup-clause-writes g c = wanting _ c.from_residual.result _ c.from_residual.ensures.1

pub returns-in_err-ports-clause-writes : goal.returns-in_err-ports-clause-writes
returns-in_err-ports-clause-writes g c = wanting _ c.from_residual-in_err-ports.result _ c.from_residual-in_err-ports.ensures.1

pub returns-in_err-walk-clause-writes : goal.returns-in_err-walk-clause-writes
returns-in_err-walk-clause-writes g c = wanting _ c.from_residual-in_err-walk.result _ c.from_residual-in_err-walk.ensures.1

pub write_run-requires-clause-opening : goal.write_run-requires-clause-opening
write_run-requires-clause-opening g c = at_opening c.in_ok-walk.walk c.args.journal.now c.in_ok-walk.ensures.units c.in_ok-walk.ensures.begins

pub returns-clause-end : goal.returns-clause-end
returns-clause-end g c =
    let opened = c.in_ok-walk.ensures in
    tells_end wash c.args.seed c.args.limit c.args.journal.now c.in_ok-walk.walk (opened.code ∙ c.new-code.ensures) (opened.setup ∙ c.in_ok-setup.ensures) opened.seed
    opened.begins opened.limit _ _ (c.as_slice.ensures ∙ c.in_ok-ports.ensures) _ c.new-code.ensures _ _ c.write_run.result c.write_run.ensures.writes

pub returns-clause-writes : goal.returns-clause-writes
returns-clause-writes g c =
    let opened = c.in_ok-walk.ensures in
    writes_trace wash c.args.seed c.args.limit c.args.journal.now c.in_ok-walk.walk (opened.code ∙ c.new-code.ensures) (opened.setup ∙ c.in_ok-setup.ensures) opened.seed
    opened.begins opened.limit _ _ (c.as_slice.ensures ∙ c.in_ok-ports.ensures) _ c.new-code.ensures _ _ c.write_run.result c.write_run.ensures.writes
