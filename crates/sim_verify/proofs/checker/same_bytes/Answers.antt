use Rattle.std.proofs.Common.{◌∙◌, sym, take, length, arith}
use Rattle.std.proofs.Math.Seq.{take-length}
use Rattle.std.proofs.lemmas.Option.{get_or_from_slice_get, slice_get_within}
use Rattle.std.proofs.lemmas.Slice.Eq.{bytes_eq-Decides}
use Rattle.sim_verify.proofs.checker.same_bytes.Goals as goal

pub returns-then-starts_with-clause-same : goal.returns-then-starts_with-clause-same
returns-then-starts_with-clause-same c =
    let piece = c.args.piece.now in
    take-length piece
    ∙ (bytes_eq-Decides piece (take (length piece) c.args.given.now)).0 (sym c.starts_with.ensures.value ∙ c.if-starts_with.true)

pub returns-then-starts_with-clause-differs : goal.returns-then-starts_with-clause-differs
returns-then-starts_with-clause-differs c b found same =
    let inside = slice_get_within c.args.piece.now (length c.args.piece.now) b found in
    absurd (omega (arith, inside))

pub returns-else-piece-count-clause-differs : goal.returns-else-piece-count-clause-differs
returns-else-piece-count-clause-differs c b found same =
    c.if-piece-count.false (get_or_from_slice_get c.args.piece.now c.loop-count.count b 0 found
    ∙ sym (get_or_from_slice_get c.args.given.now c.loop-count.count b 0 same))

pub returns-after-loop-count-clause-differs : goal.returns-after-loop-count-clause-differs
returns-after-loop-count-clause-differs c b found same =
    let ours = slice_get_within c.args.piece.now c.loop-count.count b found in
    let theirs = slice_get_within c.args.given.now c.loop-count.count b same in
    absurd (omega (arith, ours, theirs, c.min-most.ensures, c.loop-count-test.false))
