use Rattle.std.proofs.Common.{◌≡◌, ◌+◌, ◌≤◌, length}
use Rattle.std.specs.List.{filter_map}
use Rattle.sim_language.specs.AnywhereInText.{ahead, declarations, heads_of}
use Rattle.sim_language.specs.Lines.{Word, lines}
use Rattle.sim_language.specs.Named.{with_all}
use Rattle.sim_lines.proofs.HeadsOfLines.{head_of_line}
use Rattle.sim_lines.proofs.NamesSoFar.{so_far}
use Rattle.sim_lines.proofs.whole_text.look_ahead.Given as goal

-- the process lines and the names so far, and those of what is left
abbrev pub invariant-loop-line : goal.invariant-loop-line
invariant-loop-line l = record {
  heads : with_all l.heads (filter_map (head_of_line l.version) (lines l.rest)) ≡ heads_of l.version (lines l.text);
  few_heads : length l.heads + length l.rest ≤ length l.text;
  names : (w : Word) → so_far l.names l.events w (ahead w (declarations (lines l.rest))) ≡ ahead w (declarations (lines l.text));
  few_events : l.events + length l.rest ≤ length l.text;
}

abbrev pub decreases-loop-line : goal.decreases-loop-line
decreases-loop-line l = length l.rest
