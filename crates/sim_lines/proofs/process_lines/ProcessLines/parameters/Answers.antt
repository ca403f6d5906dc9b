use Rattle.std.proofs.Common.{Some, None, arith}
use Rattle.sim_lines.proofs.HeadsOfLines.{span_is_within, parameters_in_spans}
use Rattle.sim_lines.proofs.process_lines.ProcessLines.parameters.Goals as goal

pub slice_bounds-result-count : goal.slice_bounds-result-count
slice_bounds-result-count c = (span_is_within c.args.name.now c.self.inside.spans c.self.inside.classes.items c.in-Some.span c.self.invariant.1 c.in-Some.ensures).0

pub slice_bounds-result-start : goal.slice_bounds-result-start
slice_bounds-result-start c =
    let within = span_is_within c.args.name.now c.self.inside.spans c.self.inside.classes.items c.in-Some.span c.self.invariant.1 c.in-Some.ensures in
    omega (arith, within.0, within.1, c.deref.ensures.len)

pub slice_bounds-result-end : goal.slice_bounds-result-end
slice_bounds-result-end c =
    let within = span_is_within c.args.name.now c.self.inside.spans c.self.inside.classes.items c.in-Some.span c.self.invariant.1 c.in-Some.ensures in
    omega (arith, within.0, within.1, c.deref.ensures.len)

pub returns-in-Some : goal.returns-in-Some
returns-in-Some c = rw (c.deref.ensures.value, ← c.self.view_is) (parameters_in_spans c.args.name.now c.self.inside.spans c.self.inside.classes.items (Some c.in-Some.span) c.in-Some.ensures)

pub returns-in-None : goal.returns-in-None
returns-in-None c = rw (← c.self.view_is) (parameters_in_spans c.args.name.now c.self.inside.spans c.self.inside.classes.items None c.in-None.ensures)
