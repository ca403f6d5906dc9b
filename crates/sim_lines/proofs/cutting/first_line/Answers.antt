use Rattle.std.proofs.Common.{rules}
use Rattle.sim_lines.proofs.FirstLines.{first_at_feed, first_is_last}
use Rattle.sim_lines.proofs.cutting.first_line.Goals as goal

pub returns-in-Some-clause-lines : goal.returns-in-Some-clause-lines
returns-in-Some-clause-lines c = first_at_feed c.args.text.now c.in-Some.at (search rules)

pub returns-in-None-clause-lines : goal.returns-in-None-clause-lines
returns-in-None-clause-lines c = first_is_last c.args.text.now (search rules) (search rules)
