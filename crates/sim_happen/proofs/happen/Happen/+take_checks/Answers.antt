use Rattle.std.proofs.Common.{arith}
use Rattle.sim_machine.specs.Events.{unregister, is_check_of}
use Rattle.sim_happen_law.proofs.Changes.Following.{kept_then}
use Rattle.sim_happen_law.proofs.Conditions.TakingChecks.{member_there, takes_all}
use Rattle.sim_happen.proofs.happen.Happen.+take_checks.Goals as goal

pub take_check-requires : goal.take_check-requires
take_check-requires t c = record { kept = member_there _ c.args.condition _ _ _ c.args.self.now c.loop-member.self c.loop-member-test.true c.loop-member.invariant }

pub take_checks-requires : goal.take_checks-requires
take_checks-requires t c = (
  omega (arith, c.if-depth-gt0.true, c.decreases),
  kept_then (unregister _ (is_check_of c.args.condition)) c.loop-member.self c.take_check.new.self _ c.take_check.ensures.follows
      (member_there _ c.args.condition _ _ _ c.args.self.now c.loop-member.self c.loop-member-test.true c.loop-member.invariant),
)

pub returns-after-loop-member-clause-follows : goal.returns-after-loop-member-clause-follows
returns-after-loop-member-clause-follows t c =
    takes_all c.args.depth c.args.condition _ _ c.args.self.now c.loop-member.self c.if-depth-gt0.true c.loop-member-test.false c.requires.kept c.loop-member.invariant
