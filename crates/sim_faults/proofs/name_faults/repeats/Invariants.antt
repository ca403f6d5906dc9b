use Rattle.std.proofs.Common.{◌≡◌, map, length}
use Rattle.sim_language.specs.NameFaults.{repeats}
use Rattle.sim_language.specs.Variables.{given_by}
use Rattle.sim_faults.proofs.name_faults.repeats.Given as goal

-- so far nothing is given twice
abbrev pub invariant-loop-left : goal.invariant-loop-left
invariant-loop-left l = repeats (map (λ given. given.name) (given_by l.left)) ≡ repeats (map (λ given. given.name) (given_by l.slots))

abbrev pub decreases-loop-left : goal.decreases-loop-left
decreases-loop-left l = length l.left
