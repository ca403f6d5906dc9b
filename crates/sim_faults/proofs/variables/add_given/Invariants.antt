use Rattle.std.proofs.Common.{◌≡◌, drop}
use Rattle.sim_language.specs.Named.{with_all}
use Rattle.sim_language.specs.Variables.{given_by}
use Rattle.sim_faults.proofs.variables.add_given.Given as goal

-- the variables so far go on with what the slots left give
abbrev pub invariant-loop-slot : goal.invariant-loop-slot
invariant-loop-slot l = with_all l.variables (given_by (drop l.slot-index l.slots)) ≡ with_all l.initial.variables (given_by l.slots)
