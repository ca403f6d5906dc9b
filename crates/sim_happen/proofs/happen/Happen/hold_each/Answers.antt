use Rattle.std.proofs.Common.{subst, sym}
use Rattle.std.specs.Prelude.{All}
use Rattle.sim_happen_model.specs.TableOf.{IsKept}
use Rattle.sim_happen_law.proofs.Conditions.HoldingEach.{held_none, held_next}
use Rattle.sim_happen.proofs.happen.Happen.hold_each.Goals as goal

pub loop-member-init : goal.loop-member-init
loop-member-init c = held_none _ c.args.self.now c.tell.ensures.held

pub loop-member-preserved : goal.loop-member-preserved
loop-member-preserved c =
    held_next _ _ _ c.args.self.now c.loop-member.self c.add_holder.new.self c.loop-member-test.true (subst (All (IsKept c.args.self.now.events)) (sym c.as_slice-member-items.ensures.values) c.requires.kept) c.loop-member.invariant
    c.add_holder.ensures.held c.add_holder.ensures.events c.add_holder.ensures.spare

pub returns-clause-kept : goal.returns-clause-kept
returns-clause-kept c = λ k d within. c.loop-member.invariant.kept _ (c.requires.kept k d within)
