use Rattle.std.proofs.Common.{◌≡◌, ◌+◌, ◌-◌, ◌++◌, length, min, length-append, arith, rules}
use Rattle.std.specs.Prelude.{IsSome, vec_capacity}
use Rattle.std.specs.VecDeque.{deque_len, deque_capacity}
use Rattle.sim_agenda.specs.Series.{FrontIsDue, FirstIsDue}
use Rattle.sim_agenda.proofs.Comparing.{once_only, once_and_half, one_and_half}
use Rattle.sim_agenda.proofs.Joining.{series_pops, heap_pops, none_keeps}
use Rattle.sim_agenda.proofs.Rising.{rises_left}
use Rattle.sim_agenda.proofs.backlog.Backlog.pop.Goals as goal

pub invariant_of-self : goal.invariant_of-self
invariant_of-self c =
    let i = c.self.invariant in
    record {
      heap = i.heap;
      series = rises_left c.pop_front.result c.self.inside.series.items c.pop_front.new.self.items c.pop_front.ensures.items i.series;
      heap_room = search rules;
      series_room = search rules;
    }

pub returns-then-front_is_due-clause-due : goal.returns-then-front_is_due-clause-due
returns-then-front_is_due-clause-due c =
    let old = c.self.inside in
    let left = c.pop_front.new.self in
    let front : FrontIsDue old.series.items old.heap.items = rw c.deref.ensures.value at (c.front_is_due.ensures.front c.if-front_is_due.true) in
    let some : IsSome c.pop_front.result = c.pop_front.ensures.variant.1 (omega (arith, front.some)) in
    rw (← c.self.view_is) (series_pops c.pop_front.result old.heap.items old.series.items left.items _ _ some c.pop_front.ensures.items c.self.invariant.series front)

pub returns-then-front_is_due-clause-count : goal.returns-then-front_is_due-clause-count
returns-then-front_is_due-clause-count c =
    let xs = c.self.inside.heap.items in
    let ys = c.self.inside.series.items in
    let all : length (xs ++ ys) ≡ length xs + length ys = length-append xs ys in
    rw (← c.self.view_is) (omega (
      arith,
      once_only xs (length (xs ++ ys)) c.args.count.now c.front_is_due.new.count (omega arith) c.front_is_due.ensures.once
          (rw c.deref.ensures.value at c.front_is_due.ensures.alone),
    ))

pub returns-else-front_is_due-clause-due : goal.returns-else-front_is_due-clause-due
returns-else-front_is_due-clause-due c =
    let old = c.self.inside in
    let left = c.pop.new.entries in
    let first : FirstIsDue old.series.items old.heap.items = rw c.deref.ensures.value at (c.front_is_due.ensures.first c.if-front_is_due.false) in
    rw (← c.self.view_is) (heap_pops c.pop.result old.heap.items old.series.items left.items _ _ c.pop.ensures.due
    (rw c.pop.ensures.capacity (none_keeps c.pop.result _ (λ n. min (vec_capacity old.heap) (deque_capacity old.series) - (n + deque_len old.series)) _ _ c.pop.ensures.len)) first)

pub returns-else-front_is_due-clause-count : goal.returns-else-front_is_due-clause-count
returns-else-front_is_due-clause-count c =
    let xs = c.self.inside.heap.items in
    let ys = c.self.inside.series.items in
    let all : length (xs ++ ys) ≡ length xs + length ys = length-append xs ys in
    rw (← c.self.view_is) (once_and_half xs _ (length (xs ++ ys)) c.args.count.now c.front_is_due.new.count _ (omega arith) (omega arith) c.front_is_due.ensures.once
    (rw c.deref.ensures.value at c.front_is_due.ensures.alone) c.pop.ensures.count)

pub returns-else-front_is_due-clause-half : goal.returns-else-front_is_due-clause-half
returns-else-front_is_due-clause-half c =
    let xs = c.self.inside.heap.items in
    let ys = c.self.inside.series.items in
    let all : length (xs ++ ys) ≡ length xs + length ys = length-append xs ys in
    rw (← c.self.view_is) (one_and_half _ (length (xs ++ ys)) c.args.count.now c.front_is_due.new.count _ (omega arith) c.front_is_due.ensures.once c.pop.ensures.count)
