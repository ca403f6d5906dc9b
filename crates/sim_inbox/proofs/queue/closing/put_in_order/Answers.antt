use Rattle.std.proofs.Common.{◌≡◌, ◌+◌, List, length, take, ap, ◌∙◌, arith, pos}
use Rattle.std.proofs.lemmas.List.{length-append}
use Rattle.sim_inbox.specs.Closing.{in_order}
use Rattle.sim_inbox.specs.Lists.{entries_by}
use Rattle.sim_inbox.specs.declared.taken.Taken.{Taken}
use Rattle.sim_inbox.proofs.InOrder.{fewer_before, in_order_within}
use Rattle.sim_inbox.proofs.queue.closing.put_in_order.Goals as goal

pub push_reserved-requires : goal.push_reserved-requires
push_reserved-requires c =
    let p = c.loop-poster.poster in
    let entries = c.args.entries.now in
    let n = c.loop-entry.entry-index in
    let i = c.loop-entry.invariant in
    let fewer = fewer_before p n entries (record { poster = 0; serial = 0; item = record { port = 0; value = pos 0 } }) c.loop-entry-test.true c.if-entry-poster.true in
    let within = in_order_within p c.args.posters entries c.loop-poster-test.true in
    let long : length c.loop-entry.into.items ≡ length (in_order p entries) + length (entries_by p (take n entries)) =
    ap (λ (l : List Taken). length l) i.items ∙ length-append (in_order p entries) (entries_by p (take n entries)) in
    let room = c.requires.room in
    let cap = i.capacity in
    let ok = c.loop-entry.into.ok in
    omega (arith, fewer, within, long, room, cap, ok)
