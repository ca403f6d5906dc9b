use Rattle.std.proofs.Common.{◌≡◌, arith, sym, ◌∙◌}
use Rattle.std.proofs.lemmas.Option.{same_Some}
use Rattle.sim_resource.proofs.GrantOrders.{shown_apart, left_shown, left_sound, length_shown}
use Rattle.sim_resource.proofs.LastElements.{last_of_ranked, last_left_out, last_user}
use Rattle.sim_resource.specs.GrantOrder.{as_granted}
use Rattle.sim_resource.proofs.RememberedRequests.{none_preempted}
use Rattle.sim_resource.proofs.users.Users.remove_last_served.Goals as goal

pub take_last-request-requires : goal.take_last-request-requires
take_last-request-requires c =
    let a = c.self.inside in
    let some = rw (← c.self.view_is) at c.requires.some in
    omega (arith, length_shown a.users.items)

pub invariant_of-self : goal.invariant_of-self
invariant_of-self c =
    let a = c.self.inside in
    let last = c.take_last-request.ensures.last in
    let apart = shown_apart a.users.items (rw (← c.self.view_is) at c.requires.apart) in
    let request = last.last.user.request in
    let more = rw last.of_request at c.insert.ensures in
    let none = none_preempted a.preempted c.insert.new.self request (as_granted a.users.items) more c.self.invariant.1 in
    let sound = left_sound a.ranked a.next a.users.items request c.self.invariant.0 in
    rw (last_left_out c.take_last-request.new.users.items a.users.items last.last last.is apart)
    (sound, rw (left_shown request a.users.items) none)

pub returns-clause-others : goal.returns-clause-others
returns-clause-others c = λ u is.
    let a = c.self.inside in
    let last = c.take_last-request.ensures.last in
    let is_ranked = rw (← c.self.view_is) at c.requires.ranked in
    let apart = shown_apart a.users.items (rw (← c.self.view_is) at c.requires.apart) in
    let looked_at = rw (← c.self.view_is) at is in
    let others = c.take_last-request.new.users.items in
    let ranked = last_of_ranked a.ranked a.next a.users.items is_ranked c.self.invariant.0 in
    let same : last.last.user ≡ u = same_Some last.last.user u (sym (last_user others a.users.items last.last last.is) ∙ (sym ranked ∙ looked_at)) in
    rw (← c.self.view_is, ← same, last_left_out others a.users.items last.last last.is apart) (left_shown last.last.user.request a.users.items)

pub returns-clause-fewer : goal.returns-clause-fewer
returns-clause-fewer c =
    let a = c.self.inside in
    let left = c.take_last-request.new.users in
    rw (← c.self.view_is)
    (omega (arith, length_shown left.items, length_shown a.users.items, left.ok.0, a.users.ok.0, c.take_last-request.ensures.fewer))
