use Rattle.std.proofs.Common.{rules}
use Rattle.sim_verify.proofs.FirstLines.{ends_at_feed, ends_with_text}
use Rattle.sim_verify.proofs.parts.end_of_line.Goals as goal

pub returns-in-Some-clause-first : goal.returns-in-Some-clause-first
returns-in-Some-clause-first c = ends_at_feed c.args.text.now c.in-Some.at (search rules)

pub returns-in-None-clause-first : goal.returns-in-None-clause-first
returns-in-None-clause-first c = ends_with_text c.args.text.now (search rules) c.requires.some
