use Rattle.std.proofs.Common.{◌≡◌, ◌∙◌, ◌<◌, length, get_or, refl, sym, subst, arith}
use Rattle.std.proofs.lemmas.Bool.{true≢false}
use Rattle.std.proofs.lemmas.List.{get_or_default}
use Rattle.sim_types.specs.Keys.{IsLess}
use Rattle.sim_types.specs.declared.event.Entry.{Entry}
use Rattle.sim_agenda.specs.Heaps.{parent}
use Rattle.sim_agenda.proofs.Comparing.{fits_up, one_up, one_more, up_to_rest}
use Rattle.sim_agenda.proofs.Keys.{comes_before}
use Rattle.sim_agenda.proofs.Moving.{lowering_steps, lowering_ends}
use Rattle.sim_agenda.proofs.heap.put_from.Goals as goal
use Rattle.sim_agenda.proofs.heap.put_from.Goals.{else-loop-place-test, then-loop-place-test+then-not-less}

pub less-requires : goal.less-requires
less-requires c =
    fits_up c.args.bottom c.loop-place.place c.args.count.now c.loop-place.count (omega arith) c.loop-place.invariant.count

pub loop-place-preserved : goal.loop-place-preserved
loop-place-preserved c =
    let l = c.loop-place in
    let i = l.invariant in
    let more = c.loop-place-test.true in
    let v = c.index-entries-above-in-loop-place.result in
    let upper : parent l.place < length l.entries = omega (arith, i.lowered.within) in
    let is : (d : Entry) → v ≡ get_or l.entries (parent l.place) d =
    λ d. rw c.parent-above.ensures at c.index-entries-above-in-loop-place.is ∙ get_or_default l.entries (parent l.place) v d upper in
    let less : IsLess c.args.entry.key v.key =
    subst (λ (u : Entry). IsLess c.args.entry.key u.key) (sym (is c.index-entries-above.result)) (rw c.parent-above.ensures at (c.if-not-less.ensures.less.0 refl)) in
    record {
      lowered = rw c.parent-above.ensures (lowering_steps c.args.entries.now c.args.bottom c.args.entry l.entries l.place v more is less i.lowered);
      count = rw (c.parent-above.ensures, c.less.ensures.count) (one_up c.args.bottom l.place c.args.count.now l.count more i.count);
    }

pub returns-clause-heap : goal.returns-clause-heap
returns-clause-heap c =
    let l = c.loop-place in
    lowering_ends c.args.entries.now c.args.bottom c.args.entry l.entries l.place (elim c.loop-place-test.branch [
      | else-loop-place-test w ↦ λ d more. absurd (omega (arith, w.loop-place-test.false, more))
      | then-loop-place-test+then-not-less w ↦ λ d more less. absurd (true≢false (sym (w.if-not-less.ensures.less.1 (rw w.parent-above.ensures
          (comes_before l.entries c.args.entry (parent l.place) w.index-entries-above.result d (omega (arith, l.invariant.lowered.within)) less)))))
    ]) l.invariant.lowered

pub returns-clause-count : goal.returns-clause-count
returns-clause-count c =
    let l = c.loop-place in
    elim c.loop-place-test.branch [
      | else-loop-place-test w ↦ rw w.count-is (up_to_rest c.args.bottom l.place c.args.count.now l.count l.invariant.count)
      | then-loop-place-test+then-not-less w ↦ rw (w.count-is, w.less.ensures.count) (one_more c.args.bottom l.place c.args.count.now l.count w.loop-place-test.true l.invariant.count)
    ]
