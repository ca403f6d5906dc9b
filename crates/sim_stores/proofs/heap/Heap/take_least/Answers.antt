use Rattle.std.proofs.Common.{rules, w64, FitsSigned}
use Rattle.std.proofs.lemmas.Int.{to_z-of_z}
use Rattle.sim_stores.proofs.Ranking.{parted_gives, parted_sound}
use Rattle.sim_stores.proofs.heap.Heap.take_least.Goals as goal

pub invariant_of-self-2 : goal.invariant_of-self-2
invariant_of-self-2 c =
    let e = c.in_ok-ranked.ensures in
    let h = c.self.invariant in
    parted_sound _ _ c.in_ok-ranked.ranked _ h e.permutation (e.below_top h.heap) (e.heap_order h.heap).0

pub returns-clause-given : goal.returns-clause-given
returns-clause-given c =
    let e = c.in_ok-ranked.ensures in
    let h = c.self.invariant in
    let fits : FitsSigned w64 c.value.result = search rules in
    rw (to_z-of_z w64 c.value.result fits, ← c.self.view_is)
    (parted_gives _ _ c.in_ok-ranked.ranked _ h e.permutation (e.below_top h.heap) c.value.result c.value.ensures)
