use Rattle.std.proofs.Common.{arith, ◌∙◌, sym}
use Rattle.sim_machine.specs.Events.{is_same}
use Rattle.sim_resource.proofs.GrantOrders.{shown_apart, any_shown, left_shown, left_sound, length_shown}
use Rattle.sim_resource.specs.GrantOrder.{as_granted}
use Rattle.std.proofs.lemmas.List.Folds.{list_any_none}
use Rattle.sim_shared_model.proofs.LeftOut.{none_left_out}
use Rattle.sim_resource.proofs.RememberedRequests.{none_left, not_used}
use Rattle.sim_resource.proofs.users.Users.remove.Goals as goal

pub take_out-requires : goal.take_out-requires
take_out-requires c =
    record { apart = shown_apart c.self.inside.users.items (rw (← c.self.view_is) at c.requires.apart) }

pub invariant_of-self : goal.invariant_of-self
invariant_of-self c =
    let a = c.self.inside in
    let none = none_left a.preempted c.args.request (as_granted a.users.items) c.self.invariant.1 in
    let sound = left_sound a.ranked a.next a.users.items c.args.request c.self.invariant.0 in
    rw c.take_out.ensures.others (sound, rw (left_shown c.args.request a.users.items) none)

pub returns-clause-used : goal.returns-clause-used
returns-clause-used c =
    rw (← c.self.view_is) (c.take_out.ensures.used ∙ any_shown (λ u. is_same u.request c.args.request) c.self.inside.users.items)

pub returns-clause-others : goal.returns-clause-others
returns-clause-others c =
    rw (← c.self.view_is, c.take_out.ensures.others) (left_shown c.args.request c.self.inside.users.items)

pub returns-clause-spare : goal.returns-clause-spare
returns-clause-spare c =
    let a = c.self.inside in
    let left = c.take_out.new.users in
    rw (← c.self.view_is)
    (omega (arith, length_shown left.items, length_shown a.users.items, left.ok.0, a.users.ok.0, left.ok.1, a.users.ok.1, c.take_out.ensures.no_more, c.take_out.ensures.capacity))

pub returns-then-contains-clause-used : goal.returns-then-contains-clause-used
returns-then-contains-clause-used c =
    let a = c.self.inside in
    let none = not_used a.preempted c.args.request (as_granted a.users.items) c.self.invariant.1 (c.contains.ensures c.if-contains.true) in
    rw (← c.self.view_is) (sym (list_any_none (λ u. is_same u.request c.args.request) (as_granted a.users.items) none))

pub returns-then-contains-clause-others : goal.returns-then-contains-clause-others
returns-then-contains-clause-others c =
    let a = c.self.inside in
    let none = not_used a.preempted c.args.request (as_granted a.users.items) c.self.invariant.1 (c.contains.ensures c.if-contains.true) in
    rw (← c.self.view_is) (sym (none_left_out (λ u. is_same u.request c.args.request) (as_granted a.users.items) none))
