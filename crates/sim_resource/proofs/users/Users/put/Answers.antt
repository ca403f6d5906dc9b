use Rattle.std.proofs.Common.{ap, ◌∙◌, ◌++◌, [], ◌∷◌}
use Rattle.sim_resource.proofs.GrantOrders.{ranked_in_order, sound_anew, put_shown, pushed_shown, put_sound, pushed_sound}
use Rattle.sim_resource.specs.GrantOrder.{as_granted}
use Rattle.sim_resource.proofs.RememberedRequests.{none_put}
use Rattle.sim_resource.proofs.users.Users.put.Goals as goal

pub put_by_key-requires-clause-in_order : goal.put_by_key-requires-clause-in_order
put_by_key-requires-clause-in_order c =
    let a = c.self.inside in
    let n = c.number_next-grant.ensures in
    let gs = c.number_next-grant.new.users.items in
    let grant = c.number_next-grant.result in
    let s = sound_anew a.ranked a.next grant a.users.items gs c.self.invariant.0 n.users n.order n.numbered in
    ranked_in_order a.ranked grant gs c.if-self.true s

pub invariant_of-self : goal.invariant_of-self
invariant_of-self c =
    let a = c.self.inside in
    let n = c.number_next-grant.ensures in
    let gs = c.number_next-grant.new.users.items in
    let grant = c.number_next-grant.result in
    let s = sound_anew a.ranked a.next grant a.users.items gs c.self.invariant.0 n.users n.order n.numbered in
    let shown = put_shown (record { user = c.args.user; grant = grant }) gs n.numbered ∙ ap (λ us. us ++ c.args.user ∷ []) n.order in
    let fewer = rw c.request.ensures at c.remove.ensures in
    let none = none_put a.preempted c.remove.new.self (as_granted a.users.items) c.args.user fewer c.self.invariant.1 in
    rw c.put_by_key.ensures.put (put_sound a.ranked grant gs s c.args.user c.if-self.true, rw shown none)

pub invariant_of-self-else-self : goal.invariant_of-self-else-self
invariant_of-self-else-self c =
    let a = c.self.inside in
    let n = c.number_next-grant.ensures in
    let gs = c.number_next-grant.new.users.items in
    let grant = c.number_next-grant.result in
    let s = sound_anew a.ranked a.next grant a.users.items gs c.self.invariant.0 n.users n.order n.numbered in
    let shown = pushed_shown (record { user = c.args.user; grant = grant }) gs n.numbered ∙ ap (λ us. us ++ c.args.user ∷ []) n.order in
    let fewer = rw c.request.ensures at c.remove.ensures in
    let none = none_put a.preempted c.remove.new.self (as_granted a.users.items) c.args.user fewer c.self.invariant.1 in
    rw c.push_back_reserved.ensures.items (pushed_sound a.ranked grant gs s c.args.user c.if-self.false, rw shown none)

pub returns-then-self-clause-users : goal.returns-then-self-clause-users
returns-then-self-clause-users c =
    let a = c.self.inside in
    let n = c.number_next-grant.ensures in
    let gs = c.number_next-grant.new.users.items in
    let grant = c.number_next-grant.result in
    rw (← c.self.view_is, c.put_by_key.ensures.put)
    (put_shown (record { user = c.args.user; grant = grant }) gs n.numbered ∙ ap (λ us. us ++ c.args.user ∷ []) n.order)

pub returns-else-self-clause-users : goal.returns-else-self-clause-users
returns-else-self-clause-users c =
    let a = c.self.inside in
    let n = c.number_next-grant.ensures in
    let gs = c.number_next-grant.new.users.items in
    let grant = c.number_next-grant.result in
    rw (← c.self.view_is, c.push_back_reserved.ensures.items)
    (pushed_shown (record { user = c.args.user; grant = grant }) gs n.numbered ∙ ap (λ us. us ++ c.args.user ∷ []) n.order)
