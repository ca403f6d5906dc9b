use Rattle.std.proofs.Common.{◌≡◌, length}
use Rattle.sim_language.specs.AnywhereInText.{first_worded}
use Rattle.sim_language.specs.Lines.{lines}
use Rattle.sim_lines.proofs.whole_text.first_worded.Given as goal

-- so far no line has words
abbrev pub invariant-loop-line : goal.invariant-loop-line
invariant-loop-line l = first_worded (lines l.rest) ≡ first_worded (lines l.text)

abbrev pub decreases-loop-line : goal.decreases-loop-line
decreases-loop-line l = length l.rest
