use Rattle.std.proofs.Common.{sym, ◌∙◌, ap, Ok, arith}
use Rattle.sim_code.proofs.ReadingLines.{draft_says}
use Rattle.sim_code.proofs.reading.read.Goals as goal

pub finish-requires-clause-few : goal.finish-requires-clause-few
finish-requires-clause-few c = c.in_ok-draft.ensures.few

pub finish-requires-clause-says : goal.finish-requires-clause-says
finish-requires-clause-says c = draft_says c.args.text.now c.in_ok-whole.whole c.in_ok-draft.draft (omega (arith, c.if-text.false)) c.in_ok-whole.ensures c.in_ok-draft.ensures.gives

pub returns : goal.returns
returns c = draft_says c.args.text.now c.in_ok-whole.whole c.in_ok-draft.draft (omega (arith, c.if-text.false)) c.in_ok-whole.ensures c.in_ok-draft.ensures.gives ∙ ap Ok (sym c.in_ok-scenario.ensures)
