use Rattle.std.proofs.Common.{◌≡◌, take, map}
use Rattle.sim_language.specs.Statements.{argument_of}
use Rattle.sim_code.proofs.statement.arguments.Given as goal

abbrev pub invariant-loop-slot : goal.invariant-loop-slot
invariant-loop-slot l = l.args ≡ take 8 (map (argument_of l.place) (take l.slot-index l.slots))
