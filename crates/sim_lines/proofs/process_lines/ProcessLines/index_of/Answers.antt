use Rattle.std.proofs.Common.{Some, None}
use Rattle.sim_lines.proofs.HeadsOfLines.{place_in_spans}
use Rattle.sim_lines.proofs.process_lines.ProcessLines.index_of.Goals as goal

pub returns-in-Some : goal.returns-in-Some
returns-in-Some c = rw (← c.self.view_is) (place_in_spans c.args.name.now c.self.inside.spans c.self.inside.classes.items (Some c.in-Some.index) c.in-Some.ensures.index)

pub returns-in-None : goal.returns-in-None
returns-in-None c = rw (← c.self.view_is) (place_in_spans c.args.name.now c.self.inside.spans c.self.inside.classes.items None c.in-None.ensures.index)
