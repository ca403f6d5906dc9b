use Rattle.std.proofs.Common.{◌≤◌, length, arith}
use Rattle.sim_verify.proofs.Wrong.{over_extra, over_line}
use Rattle.sim_verify.proofs.checker.verdict_where_over.Goals as goal

pub returns-then-start-at : goal.returns-then-start-at
returns-then-start-at c =
    let h = c.last_line-line.ensures in
    let inside : c.args.at ≤ length c.args.given.now = omega (arith, c.requires.inside) in
    over_extra c.args.ports.now c.args.given.now c.args.at c.last_line-line.result.0 c.last_line-line.result.1 inside h.inside h.unended h.goes_on
    c.requires.inside c.if-start-at.true

pub returns-else-start-at : goal.returns-else-start-at
returns-else-start-at c =
    let h = c.last_line-line.ensures in
    let inside : c.args.at ≤ length c.args.given.now = omega (arith, c.requires.inside) in
    over_line c.args.ports.now c.args.given.now c.args.at c.last_line-line.result.0 c.last_line-line.result.1 inside h.inside h.unended h.goes_on
    c.why_of-why.result c.why_of-why.ensures c.requires.inside c.if-start-at.false
