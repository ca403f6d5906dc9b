use Rattle.std.proofs.Common.{◌≡◌, ◌<◌, [], map, length, slice_index_or, inl, inr, ◌∙◌, sym, ap, arith, rules}
use Rattle.std.proofs.lemmas.Bool.{cases_lt, eqb-true}
use Rattle.std.proofs.lemmas.List.{nil_from_length}
use Rattle.sim_agenda.specs.Windows.{turned}
use Rattle.sim_agenda.proofs.Queues.{none_joined}
use Rattle.sim_agenda.proofs.Turning.{ring_read}
use Rattle.sim_agenda.proofs.window.next_filled.Goals as goal

pub returns-then-len-eq0-clause-before : goal.returns-then-len-eq0-clause-before
returns-then-len-eq0-clause-before c =
    λ i less. none_joined (turned c.args.turn (map (λ q. q.items) c.args.queues.now)) i (omega (arith, c.requires.len, c.if-len-eq0.true))

pub loop-number-preserved : goal.loop-number-preserved
loop-number-preserved c =
    let qs = c.args.queues.now in
    let number = c.loop-number.number in
    let less : number < 64 = c.loop-number-test.true in
    let here = ring_read qs c.args.turn number c.place_in_ring.result c.index-queues-place_in_ring.result c.requires.all c.requires.turn less
    c.place_in_ring.ensures c.index-queues-place_in_ring.is in
    let empty : c.index-queues-place_in_ring.result.items ≡ [] =
    nil_from_length c.index-queues-place_in_ring.result.items
    (omega (arith, c.index-queues-place_in_ring.result.ok, eqb-true _ _ (sym c.is_empty.ensures ∙ c.if-is_empty.true))) in
    record {
      few = omega (arith, less);
      before = λ i under. elim (cases_lt i number) [
        | inl lower ↦ c.loop-number.invariant.before i lower
        | inr over ↦ let same : i ≡ number = omega (arith, under, over) in
            ap (λ n. slice_index_or (turned c.args.turn (map (λ q. q.items) qs)) n []) same ∙ here ∙ empty
      ];
    }

pub returns-else-is_empty-clause-filled : goal.returns-else-is_empty-clause-filled
returns-else-is_empty-clause-filled c =
    let qs = c.args.queues.now in
    let number = c.loop-number.number in
    λ less. let here = ring_read qs c.args.turn number c.place_in_ring.result c.index-queues-place_in_ring.result c.requires.all c.requires.turn less
    c.place_in_ring.ensures c.index-queues-place_in_ring.is in
    let some : 0 < length c.index-queues-place_in_ring.result.items = search rules in
    omega (arith, some, ap length here)
