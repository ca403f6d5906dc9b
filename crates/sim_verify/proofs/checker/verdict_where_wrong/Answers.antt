use Rattle.sim_verify.proofs.Wrong.{wrong_line, wrong_short}
use Rattle.sim_verify.proofs.checker.verdict_where_wrong.Goals as goal

pub returns-then-start-given : goal.returns-then-start-given
returns-then-start-given c more =
    let h = c.last_line-line.ensures in
    wrong_short c.args.ports.now c.args.given.now c.args.at c.last_line-line.result.0 c.last_line-line.result.1 c.requires.inside h.inside h.unended h.goes_on
    c.args.wrong more c.if-start-given.true

pub returns-else-start-given : goal.returns-else-start-given
returns-else-start-given c more =
    let h = c.last_line-line.ensures in
    wrong_line c.args.ports.now c.args.given.now c.args.at c.last_line-line.result.0 c.last_line-line.result.1 c.requires.inside h.inside h.unended h.goes_on
    c.why_of-why.result c.why_of-why.ensures c.args.wrong more c.requires.differs c.if-start-given.false
