use Rattle.std.proofs.Common.{◌≡◌, ◌≤◌, ◌+◌, ◌-◌, ◌++◌, length, take, drop}
use Rattle.std.specs.List.{concat}
use Rattle.sim_verify.specs.TraceLines.{fed_lines, scenario_lines, trace_lines}
use Rattle.sim_verify.proofs.parts.part.Given as goal

-- none of the lines before this byte says `trace`
abbrev pub invariant-loop-at : goal.invariant-loop-at
invariant-loop-at l = record {
  inside : l.at ≤ length l.text;
  few : l.count ≤ l.at;
  count : length (fed_lines l.text) ≡ l.count + length (fed_lines (drop l.at l.text));
  scenario : concat (scenario_lines (fed_lines l.text)) ≡ take l.at l.text ++ concat (scenario_lines (fed_lines (drop l.at l.text)));
  trace : trace_lines (fed_lines l.text) ≡ trace_lines (fed_lines (drop l.at l.text));
}

abbrev pub decreases-loop-at : goal.decreases-loop-at
decreases-loop-at l = length l.text - l.at
