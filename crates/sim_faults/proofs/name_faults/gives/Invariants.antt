use Rattle.std.proofs.Common.{◌≡◌, map, drop}
use Rattle.sim_language.specs.Lines.{is_among}
use Rattle.sim_language.specs.Variables.{given_by}
use Rattle.sim_faults.proofs.name_faults.gives.Given as goal

-- so far the name is not given
abbrev pub invariant-loop-slot : goal.invariant-loop-slot
invariant-loop-slot l = is_among l.name (map (λ given. given.name) (given_by (drop l.slot-index l.slots))) ≡ is_among l.name (map (λ given. given.name) (given_by l.slots))
