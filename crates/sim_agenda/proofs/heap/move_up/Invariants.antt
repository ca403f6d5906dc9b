use Rattle.std.proofs.Common.{◌-◌, length}
use Rattle.sim_agenda.specs.Comparisons.{ComparesAtLevels}
use Rattle.sim_agenda.specs.Heaps.{IsMovedUp}
use Rattle.sim_agenda.proofs.heap.move_up.Given as goal

-- so far the place is left, with at most one comparison for each level
abbrev pub invariant-loop-place : goal.invariant-loop-place
invariant-loop-place l =
    record {
      moved : IsMovedUp l.initial.entries l.entries l.place;
      count : ComparesAtLevels l.place l.initial.count l.count;
    }

abbrev pub decreases-loop-place : goal.decreases-loop-place
decreases-loop-place l = length l.entries - l.place
