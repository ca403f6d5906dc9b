use Rattle.std.proofs.Common.{arith}
use Rattle.sim_words.proofs.beginning.begins.Goals as goal

pub returns-in-Some-Scenario : goal.returns-in-Some-Scenario
returns-in-Some-Scenario c = grind (arith, c.header_form.ensures c.args.version)
