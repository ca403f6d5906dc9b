use Rattle.sim_machine_law.proofs.RunLaws.DrawnNumbers.{drawn_least, drawn_greatest, drawn_each}
use Rattle.sim_machine_law.proofs.draws.drawn_numbers.Goals as goal

pub returns-clause-least : goal.returns-clause-least
returns-clause-least c = drawn_least

pub returns-clause-greatest : goal.returns-clause-greatest
returns-clause-greatest c = drawn_greatest

pub returns-clause-each : goal.returns-clause-each
returns-clause-each c = drawn_each
