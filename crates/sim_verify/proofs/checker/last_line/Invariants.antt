use Rattle.std.proofs.Common.{◌≡◌, ◌≤◌, ◌+◌, ◌-◌, ◌++◌, ℕ, List, length, drop}
use Rattle.sim_verify.specs.TraceLines.{fed_lines}
use Rattle.sim_verify.specs.Verdicts.{verdict_from}
use Rattle.sim_verify.proofs.checker.last_line.Given as goal

-- the lines before this byte are whole, and as many
abbrev pub invariant-loop-end : goal.invariant-loop-end
invariant-loop-end l = record {
  inside : l.start ≤ length l.bytes;
  few : l.line ≤ l.start + 1;
  goes_on : (ports : List (List ℕ)) (trace given : List ℕ)
      → verdict_from ports 1 (fed_lines (l.bytes ++ trace)) (fed_lines (l.bytes ++ given))
      ≡ verdict_from ports l.line (fed_lines (drop l.start l.bytes ++ trace)) (fed_lines (drop l.start l.bytes ++ given));
}

abbrev pub decreases-loop-end : goal.decreases-loop-end
decreases-loop-end l = length l.bytes - l.start
