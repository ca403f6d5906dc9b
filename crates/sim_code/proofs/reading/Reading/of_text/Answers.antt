use Rattle.sim_language.specs.Lines.{lines}
use Rattle.std.proofs.Common.{refl, arith}
use Rattle.sim_code.proofs.ReadingLines.{reading_starts}
use Rattle.sim_code.proofs.reading.Reading.of_text.Goals as goal

pub returns : goal.returns
returns c = reading_starts c.args.whole.now (lines c.args.text.now) _ c.new-2.ensures refl c.new-3.ensures c.new-4.ensures c.of_text.ensures.lines (omega (arith, c.of_text.ensures.few, c.requires))
