use Rattle.std.proofs.Common.{arith, ◌∙◌}
use Rattle.sim_happen_law.proofs.Changes.Unholding.{unheld_start, unheld_owns, unheld_more, unheld_end}
use Rattle.sim_happen.proofs.happen.Happen.+give_back.Goals as goal

pub loop-member-init : goal.loop-member-init
loop-member-init t c =
    unheld_start _ c.args.event _ c.args.self.now c.release.new.self c.requires.held c.members-members.ensures.held
    c.release.ensures.events c.release.ensures.rest (c.goes_with_members.ensures.goes c.if-goes_with_members.true)
    (c.as_slice-member-items.ensures.values ∙ c.members-members.ensures.members) c.release.ensures.room

pub give_back-requires : goal.give_back-requires
give_back-requires t c =
    (omega (arith, c.if-depth-gt0.true, c.decreases), unheld_owns _ c.args.event _ _ _ c.args.self.now c.loop-member.self c.loop-member-test.true c.loop-member.invariant)

pub loop-member-preserved : goal.loop-member-preserved
loop-member-preserved t c =
    unheld_more _ c.args.event _ _ _ c.args.self.now c.loop-member.self c.give_back.new.self c.loop-member-test.true c.loop-member.invariant c.give_back.ensures.events c.give_back.ensures.rest c.give_back.ensures.room

pub returns-after-loop-member-clause-events : goal.returns-after-loop-member-clause-events
returns-after-loop-member-clause-events t c =
    unheld_end c.args.depth c.args.event _ _ c.args.self.now c.loop-member.self c.if-depth-gt0.true c.loop-member-test.false c.loop-member.invariant
