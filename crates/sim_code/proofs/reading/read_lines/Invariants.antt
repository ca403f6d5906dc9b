use Rattle.std.proofs.Common.{length}
use Rattle.sim_language.specs.Lines.{lines}
use Rattle.sim_language.specs.Reads.{reads_text}
use Rattle.sim_code.specs.Readings.{IsReading}
use Rattle.sim_code.proofs.reading.read_lines.Given as goal

-- what was read and what is left say what the text says
abbrev pub invariant-loop-reading : goal.invariant-loop-reading
invariant-loop-reading l = IsReading l.fn.whole.heads (reads_text l.fn.whole (lines l.fn.text)) l.reading

abbrev pub decreases-loop-reading : goal.decreases-loop-reading
decreases-loop-reading l = length l.reading.lines
