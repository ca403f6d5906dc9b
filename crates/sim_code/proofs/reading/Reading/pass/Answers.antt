use Rattle.sim_code.proofs.ReadingLines.{line_goes_on}
use Rattle.sim_code.proofs.reading.Reading.pass.Goals as goal

pub returns : goal.returns
returns c answer is = line_goes_on c.args.heads.now answer c.args.self.now c.take_line.new.self c.add.new.self c.go_on.new.self _ c.if-not-branch.false c.in_ok-take_line.ensures c.in_ok-add.ensures c.in_ok-go_on.ensures is
