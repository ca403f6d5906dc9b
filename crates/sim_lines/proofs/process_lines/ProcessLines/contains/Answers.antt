use Rattle.sim_lines.proofs.HeadsOfLines.{is_named_in_spans}
use Rattle.sim_lines.proofs.process_lines.ProcessLines.contains.Goals as goal

pub returns : goal.returns
returns c = rw (← c.self.view_is) (is_named_in_spans c.args.name.now c.self.inside.spans c.self.inside.classes.items c.contains.result c.contains.ensures)
