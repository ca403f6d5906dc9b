use Rattle.std.proofs.Common.{fold, take}
use Rattle.sim_machine.specs.Conditions.{join_member}
use Rattle.sim_happen_law.proofs.Changes.Following.{kept_then}
use Rattle.sim_happen_law.proofs.Conditions.Joining.{joins_next}
use Rattle.sim_happen.proofs.happen.Happen.join_each.Goals as goal

pub join-requires-clause-member : goal.join-requires-clause-member
join-requires-clause-member c =
    let j = c.loop-member.invariant in
    kept_then (λ d. fold (join_member c.args.condition) d (take c.loop-member.member-index c.as_slice-member-items.result.now)) c.args.self.now c.loop-member.self _ j.follows (j.members _ _ c.loop-member-test.true)

pub loop-member-preserved : goal.loop-member-preserved
loop-member-preserved c =
    joins_next c.args.condition _ _ _ c.args.self.now c.loop-member.self c.join.new.self c.loop-member-test.true c.loop-member.invariant c.join.ensures.follows c.join.ensures.room
