use Rattle.std.proofs.Common.{◌≡◌, ◌+◌, ◌≤◌, length}
use Rattle.sim_types.specs.Limits.{most_bytes}
use Rattle.sim_language.specs.Named.{with_all}
use Rattle.sim_language.specs.Variables.{given_below, variables_of}
use Rattle.sim_faults.proofs.variables.variables_of.Given as goal

-- the variables so far go on with what the lines left give
abbrev pub invariant-loop-line : goal.invariant-loop-line
invariant-loop-line l = record {
  variables : with_all l.variables (given_below l.deep l.left) ≡ variables_of l.params l.below;
  few : l.deep + length l.left ≤ most_bytes;
}

abbrev pub decreases-loop-line : goal.decreases-loop-line
decreases-loop-line l = length l.left
