use Rattle.std.proofs.Common.{◌≡◌, take, map}
use Rattle.sim_language.specs.Reads.{start_argument_of}
use Rattle.sim_code.proofs.draft.start_arguments.Given as goal

abbrev pub invariant-loop-slot : goal.invariant-loop-slot
invariant-loop-slot l = l.args ≡ map (start_argument_of l.place.above.declared) (take l.slot-index l.first)
