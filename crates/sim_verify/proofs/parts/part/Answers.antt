use Rattle.std.proofs.Common.{◌∙◌, sym, arith}
use Rattle.sim_verify.proofs.FirstLines.{count_on, end_inside, first_is, other_is, scenario_on, trace_on}
use Rattle.sim_verify.proofs.parts.part.Goals as goal

pub loop-at-preserved : goal.loop-at-preserved
loop-at-preserved c =
    let text = c.args.text.now in
    let at = c.loop-at.at in
    let end = c.end_of_line-end.result in
    let h = c.loop-at.invariant in
    let first = first_is text at end c.end_of_line-end.ensures.first in
    let other = other_is text at end c.end_of_line-end.ensures.inside (sym c.is_trace_line.ensures ∙ c.if-is_trace_line.false) in
    record {
      inside = end_inside text at end h.inside c.end_of_line-end.ensures.inside;
      few = omega (arith, h.few, c.end_of_line-end.ensures.more);
      count = count_on text at end first other c.loop-at.count h.count;
      scenario = scenario_on text at end first other h.scenario;
      trace = trace_on text at end first other h.trace;
    }
