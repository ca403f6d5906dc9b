use Rattle.std.proofs.Common.{◌≤◌, sym, subst, ◌∙◌}
use Rattle.sim_machine.specs.Conditions.{most_weight}
use Rattle.sim_happen_law.proofs.Conditions.Weights.{weight_is, light}
use Rattle.sim_happen.proofs.happen.Happen.+weigh.Goals as goal

pub returns-after-loop-member-clause-weight : goal.returns-after-loop-member-clause-weight
returns-after-loop-member-clause-weight t c =
    weight_is c.args.depth c.args.self.now.events c.args.event _ _ _ c.if-depth-gt0.true (c.as_slice-member-items.ensures.values ∙ c.members-members.ensures.members) c.loop-member-test.false c.loop-member.invariant

pub returns-after-loop-member-clause-light : goal.returns-after-loop-member-clause-light
returns-after-loop-member-clause-light t c =
    let is = weight_is c.args.depth c.args.self.now.events c.args.event _ _ _ c.if-depth-gt0.true (c.as_slice-member-items.ensures.values ∙ c.members-members.ensures.members) c.loop-member-test.false c.loop-member.invariant in
    subst (λ w. w ≤ most_weight) (sym is) (light c.args.self.now.events c.args.depth c.args.event c.requires.few c.members-members.ensures.narrow)
