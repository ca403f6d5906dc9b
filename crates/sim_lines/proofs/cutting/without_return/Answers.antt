use Rattle.sim_lines.proofs.Cuts.{with_return, no_return}
use Rattle.sim_lines.proofs.cutting.without_return.Goals as goal

pub returns-in-Some : goal.returns-in-Some
returns-in-Some c = with_return c.args.line.now c.as_slice.result.now c.in-Some.front.now c.as_slice.ensures c.in-Some.ensures.cases.0 c.in-Some.ensures.cases.1

pub returns-in-None : goal.returns-in-None
returns-in-None c = no_return c.args.line.now c.as_slice.result.now c.as_slice.ensures c.in-None.ensures.cases
