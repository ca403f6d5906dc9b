use Rattle.sim_machine_law.proofs.RunLaws.DrawnNumbers.{word_drawn, no_word_drawn}
use Rattle.sim_machine_law.proofs.draws.drawn_words.Goals as goal

pub returns-clause-one : goal.returns-clause-one
returns-clause-one g c = word_drawn

pub returns-clause-none : goal.returns-clause-none
returns-clause-none g c = no_word_drawn
