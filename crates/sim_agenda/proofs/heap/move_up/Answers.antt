use Rattle.std.proofs.Common.{◌+◌, ◌*◌, length, arith}
use Rattle.sim_agenda.proofs.Comparing.{no_comparison, fits_down, one_down}
use Rattle.sim_agenda.proofs.Moving.{moved_begins, moved_steps, first_alone}
use Rattle.sim_agenda.proofs.heap.move_up.Goals as goal

pub loop-place-init : goal.loop-place-init
loop-place-init c =
    record {
      moved = moved_begins c.args.entries.now c.requires.some c.requires.heap;
      count = no_comparison 0 c.args.count.now;
    }

pub first_below-child-requires-clause-count : goal.first_below-child-requires-clause-count
first_below-child-requires-clause-count c =
    let i = c.loop-place.invariant in
    fits_down c.loop-place.place c.args.count.now c.loop-place.count (length c.args.entries.now) (omega (arith, i.moved.within, i.moved.len)) c.requires.count i.count

pub loop-place-preserved : goal.loop-place-preserved
loop-place-preserved c =
    let l = c.loop-place in
    let i = l.invariant in
    let h = c.first_below-child.ensures in
    let child = c.first_below-child.result in
    record {
      moved = moved_steps c.args.entries.now l.entries l.place child c.index-entries-child.result h.below h.lower h.within c.index-entries-child.is h.first i.moved;
      count = one_down l.place child c.args.count.now l.count c.first_below-child.new.count h.below h.lower (omega (arith, h.once)) (omega (arith, h.once)) i.count;
    }

pub returns-then-left-entries-clause-moved : goal.returns-then-left-entries-clause-moved
returns-then-left-entries-clause-moved c =
    let l = c.loop-place in
    let left = 2 * l.place + 1 in
    moved_steps c.args.entries.now l.entries l.place left c.index-entries-left.result (omega arith) (omega arith) c.if-left-entries.true c.index-entries-left.is
    (first_alone l.entries l.place (omega (arith, c.loop-place-test.false))) l.invariant.moved
