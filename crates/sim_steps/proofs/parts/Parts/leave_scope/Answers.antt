use Rattle.std.proofs.Common.{refl}
use Rattle.sim_steps_law.proofs.Scopes.LeavingInnermost.{left_none, left_owed, left_scope, may_leave}
use Rattle.sim_steps.proofs.parts.Parts.leave_scope.Goals as goal

pub leave-requires-clause-res : goal.leave-requires-clause-res
leave-requires-clause-res g c =
    let can = rw (← c.self.view_is) at c.requires.can in
    (may_leave c.args.process c.in-Some.scope can c.self.invariant.resources c.in-Some.ensures.result).within

pub leave-requires-clause-slots : goal.leave-requires-clause-slots
leave-requires-clause-slots g c =
    let can = rw (← c.self.view_is) at c.requires.can in
    (may_leave c.args.process c.in-Some.scope can c.self.invariant.resources c.in-Some.ensures.result).slots

pub leave-requires-clause-open : goal.leave-requires-clause-open
leave-requires-clause-open g c =
    let can = rw (← c.self.view_is) at c.requires.can in
    (may_leave c.args.process c.in-Some.scope can c.self.invariant.resources c.in-Some.ensures.result).all_open

pub leave-requires-clause-here : goal.leave-requires-clause-here
leave-requires-clause-here g c =
    let can = rw (← c.self.view_is) at c.requires.can in
    (may_leave c.args.process c.in-Some.scope can c.self.invariant.resources c.in-Some.ensures.result).here

pub unhold-requires : goal.unhold-requires
unhold-requires g c =
    let can = rw (← c.self.view_is) at c.requires.can in
    let left = c.leave.ensures.left in
    record {
      owed = left_owed _ c.args.process c.in-Some.scope c.leave.new.self _ can c.self.invariant.resources c.in-Some.ensures.result left (rw (c.in-Some.ensures.closed, left.left) refl);
    }

pub returns-in-Some-clause-leaves : goal.returns-in-Some-clause-leaves
returns-in-Some-clause-leaves g c =
    let can = rw (← c.self.view_is) at c.requires.can in
    let left = c.leave.ensures.left in
    let back = c.unhold.ensures in
    rw (← c.self.view_is) (left_scope _ c.args.process c.in-Some.scope c.leave.new.self c.unhold.new.self can back.owes back.returns back.rest c.self.invariant.resources c.in-Some.ensures.result left c.leave.ensures.room (rw (c.in-Some.ensures.closed, left.left) refl))

pub returns-in-None-clause-leaves : goal.returns-in-None-clause-leaves
returns-in-None-clause-leaves g c =
    let can = rw (← c.self.view_is) at c.requires.can in
    let alive = rw (← c.self.view_is) at c.requires.alive in
    rw (← c.self.view_is) (left_none c.args.process _ can alive c.in-None.ensures.result (rw c.in-None.ensures.closed refl))
