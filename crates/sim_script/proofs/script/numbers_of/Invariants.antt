-- The variables so far are marked, and no other bit is set.
use Rattle.sim_script.proofs.Marks.{MarksThemAlone}
use Rattle.sim_script.proofs.script.numbers_of.Given as goal

abbrev pub invariant-loop-at : goal.invariant-loop-at
invariant-loop-at l = MarksThemAlone l.at l.numbers l.classes
