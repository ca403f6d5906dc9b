use Rattle.sim_resource.proofs.NewNumbers.{IsNumberedAnew, count_from}
use Rattle.sim_resource.proofs.users.number_anew.Given as goal

abbrev pub invariant-loop-least : goal.invariant-loop-least
invariant-loop-least l = IsNumberedAnew l.next l.fn.users l.users

abbrev pub decreases-loop-least : goal.decreases-loop-least
decreases-loop-least l = count_from l.next l.users
