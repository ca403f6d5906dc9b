use Rattle.std.proofs.Common.{arith}
use Rattle.std.specs.Arc.{arc_value}
use Rattle.sim_lanes.proofs.Laying.{may_split, is_posting}
use Rattle.sim_lanes.proofs.opening.split_posters.Goals as goal

pub split_seat-own-requires : goal.split_seat-own-requires
split_seat-own-requires c =
    let n = c.requires.many in let t = c.loop-p-test.true in let table = (arc_value c.args.table.now).shared in
    rw c.deref.ensures (may_split table.key table.table_id c.loop-p.seat.table_id c.loop-p.seat.me c.loop-p.p c.loop-p.invariant.split c.loop-p.seat.id (omega (arith, n, t)))

pub invariant_of-push : goal.invariant_of-push
invariant_of-push c =
    let n = c.requires.many in let t = c.loop-p-test.true in let table = (arc_value c.args.table.now).shared in let s = c.split_seat-own.ensures in
    rw c.in_ok-theirs.ensures (is_posting table.key table.table_id c.loop-p.seat.table_id c.loop-p.seat.me c.loop-p.p c.loop-p.invariant.split
    c.split_seat-own.result.table_id c.split_seat-own.result.me c.args.ends.now (omega (arith, n, t)) c.requires.ends s.3 s.4)
