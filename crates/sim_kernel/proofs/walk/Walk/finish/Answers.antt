use Rattle.std.proofs.Common.{◌∙◌}
use Rattle.sim_kernel.proofs.WalkEnds.{ends_at}
use Rattle.sim_kernel.proofs.walk.Walk.finish.Goals as goal

pub returns-clause-end : goal.returns-clause-end
returns-clause-end g c m stands = c.end-end.ensures ∙ ends_at g.B.LawfulBody.body c.args.self m stands
