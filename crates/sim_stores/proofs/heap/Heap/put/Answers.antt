use Rattle.std.proofs.Common.{◌≡◌, ◌+◌, suc, refl, arith}
use Rattle.sim_stores.proofs.Ranking.{joined_items, joined_sound}
use Rattle.sim_stores.proofs.heap.Heap.put.Goals as goal

pub invariant_of-self : goal.invariant_of-self
invariant_of-self c =
    let e = c.in-Ok.ensures in
    let more : c.self.inside.next + 1 ≡ suc c.self.inside.next = omega arith in
    joined_sound _ _ (record { item = c.args.item; number = c.self.inside.next }) _ _ c.self.invariant refl more e.permutation (e.heap_order c.self.invariant.heap)

pub returns-clause-items : goal.returns-clause-items
returns-clause-items c =
    let e = c.in-Ok.ensures in
    let more : c.self.inside.next + 1 ≡ suc c.self.inside.next = omega arith in
    rw (← c.self.view_is)
    (joined_items _ _ (record { item = c.args.item; number = c.self.inside.next }) _ _ c.self.invariant refl more e.permutation)
