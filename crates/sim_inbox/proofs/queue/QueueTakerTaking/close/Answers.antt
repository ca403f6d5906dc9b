use Rattle.std.proofs.Common.{rules, ◌≤◌, length, sym, ap, ◌∙◌, subst}
use Rattle.std.specs.Vec.{vec_capacity}
use Rattle.sim_inbox.specs.Closing.{in_order}
use Rattle.sim_inbox.proofs.Closed.{HasJoined, IsTotal, begin_with_taken, have_joined_is, left_in_order, left_room, order_room}
use Rattle.sim_inbox.proofs.queue.QueueTakerTaking.close.Goals as goal

pub drain-requires-clause-joined : goal.drain-requires-clause-joined
drain-requires-clause-joined o c =
    let is = subst (HasJoined c.args.self c.join_all.new.self) c.into_vec.ensures c.join_all.ensures in
    have_joined_is c.args.self c.join_all.new.self c.args.posters is

pub drain-requires-clause-room : goal.drain-requires-clause-room
drain-requires-clause-room o c =
    let is = subst (HasJoined c.args.self c.join_all.new.self) c.into_vec.ensures c.join_all.ensures in
    let total = subst (IsTotal c.total_posted-total.result) c.as_slice.ensures c.total_posted-total.ensures in
    let room : c.total_posted-total.result ≤ vec_capacity c.reserve.new.self = search rules in
    left_room c.args.self c.join_all.new.self c.args.posters is c.total_posted-total.result (vec_capacity c.reserve.new.self) total room c.reserve.new.self.small

pub put_in_order-requires-clause-room : goal.put_in_order-requires-clause-room
put_in_order-requires-clause-room o c =
    let is = subst (HasJoined c.args.self c.join_all.new.self) c.into_vec.ensures c.join_all.ensures in
    let total = subst (IsTotal c.total_posted-total.result) c.as_slice.ensures c.total_posted-total.ensures in
    let capacity = vec_capacity c.reserve-else-is_err.new.self in
    let room : c.total_posted-total.result ≤ capacity = search rules in
    let fits = order_room c.args.self c.join_all.new.self c.args.posters is c.drain.new.entries.items c.len-count.result c.len-count.ensures c.drain.ensures c.total_posted-total.result capacity total room c.reserve-else-is_err.new.self.small in
    subst (λ l. length (in_order c.len-count.result l) ≤ capacity) (sym c.as_slice-2.ensures.value) fits

pub returns-clause-left : goal.returns-clause-left
returns-clause-left o c =
    let is = subst (HasJoined c.args.self c.join_all.new.self) c.into_vec.ensures c.join_all.ensures in
    c.from_vec.ensures ∙ c.put_in_order.ensures ∙ ap (in_order c.len-count.result) c.as_slice-2.ensures.value
    ∙ left_in_order c.args.self c.join_all.new.self c.args.posters is c.drain.new.entries.items c.len-count.result c.len-count.ensures c.drain.ensures

pub returns-clause-whole : goal.returns-clause-whole
returns-clause-whole o c =
    let is = subst (HasJoined c.args.self c.join_all.new.self) c.into_vec.ensures c.join_all.ensures in
    begin_with_taken c.args.self c.join_all.new.self c.args.posters is c.drain.new.entries.items c.drain.ensures
