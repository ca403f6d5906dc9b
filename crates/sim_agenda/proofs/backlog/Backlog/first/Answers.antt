use Rattle.std.proofs.Common.{arith}
use Rattle.std.specs.Prelude.{IsSome}
use Rattle.std.specs.Slice.{IsItemAt}
use Rattle.sim_agenda.specs.Series.{FrontIsDue, FirstIsDue}
use Rattle.sim_agenda.proofs.Joining.{front_is_first, top_is_first}
use Rattle.sim_agenda.proofs.backlog.Backlog.first.Goals as goal

pub returns-then-front_is_due-clause-first : goal.returns-then-front_is_due-clause-first
returns-then-front_is_due-clause-first c =
    let old = c.self.inside in
    let front : FrontIsDue old.series.items old.heap.items = rw c.deref.ensures.value at (c.front_is_due.ensures.front c.if-front_is_due.true) in
    let some : IsSome c.front.result = c.front.ensures.variant.1 (omega (arith, front.some)) in
    rw (← c.self.view_is) (front_is_first old.heap.items old.series.items c.front.result some c.front.ensures.lookup front c.self.invariant.series)

pub returns-else-front_is_due-clause-first : goal.returns-else-front_is_due-clause-first
returns-else-front_is_due-clause-first c =
    let old = c.self.inside in
    let first : FirstIsDue old.series.items old.heap.items = rw c.deref.ensures.value at (c.front_is_due.ensures.first c.if-front_is_due.false) in
    let item : IsItemAt old.heap.items 0 c.first.result = rw c.deref-else-front_is_due.ensures.value at c.first.ensures.item in
    rw (← c.self.view_is) (top_is_first old.heap.items old.series.items c.first.result item first c.self.invariant.heap)
