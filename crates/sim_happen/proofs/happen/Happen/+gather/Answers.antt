use Rattle.std.proofs.Common.{arith, sym, subst, ◌∙◌}
use Rattle.std.specs.Prelude.{All}
use Rattle.sim_happen_model.specs.TableOf.{IsKept}
use Rattle.sim_happen_law.proofs.Conditions.Gathering.{gather_fits, gather_last}
use Rattle.sim_happen.proofs.happen.Happen.+gather.Goals as goal

pub gather-requires : goal.gather-requires
gather-requires t c = (
  omega (arith, c.if-depth-gt0.true, c.decreases),
  (subst (All (IsKept c.args.self.now.events)) (sym c.as_slice-member-items.ensures.values) c.members-members.ensures.kept _ _ c.loop-member-test.true, gather_fits _ c.args.self.now.events _ _ _ c.args.value.now c.loop-member.value c.loop-member-test.true c.loop-member.invariant),
)

pub returns-after-loop-member-clause-gathers : goal.returns-after-loop-member-clause-gathers
returns-after-loop-member-clause-gathers t c =
    (gather_last c.args.depth c.args.self.now.events c.args.event _ _ c.args.value.now c.loop-member.value c.if-depth-gt0.true (sym c.is_condition.ensures ∙ c.if-is_condition.true)
    (c.as_slice-member-items.ensures.values ∙ c.members-members.ensures.members) c.loop-member-test.false c.loop-member.invariant).0

pub returns-after-loop-member-clause-few : goal.returns-after-loop-member-clause-few
returns-after-loop-member-clause-few t c =
    (gather_last c.args.depth c.args.self.now.events c.args.event _ _ c.args.value.now c.loop-member.value c.if-depth-gt0.true (sym c.is_condition.ensures ∙ c.if-is_condition.true)
    (c.as_slice-member-items.ensures.values ∙ c.members-members.ensures.members) c.loop-member-test.false c.loop-member.invariant).1
