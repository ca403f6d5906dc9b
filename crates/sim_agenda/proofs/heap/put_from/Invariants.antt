use Rattle.sim_agenda.proofs.Comparing.{ComparesUpTo}
use Rattle.sim_agenda.proofs.Moving.{Lowering}
use Rattle.sim_agenda.proofs.heap.put_from.Given as goal

-- the entry may stand at the place, with one comparison for each level below it
abbrev pub invariant-loop-place : goal.invariant-loop-place
invariant-loop-place l =
    record {
      lowered : Lowering l.initial.entries l.bottom l.entry l.entries l.place;
      count : ComparesUpTo l.bottom l.place l.initial.count l.count;
    }

abbrev pub decreases-loop-place : goal.decreases-loop-place
decreases-loop-place l = l.place
