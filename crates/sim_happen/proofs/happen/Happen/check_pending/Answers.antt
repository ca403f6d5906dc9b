use Rattle.std.proofs.Common.{◌∙◌, ap, sym, subst, refl, Option}
use Rattle.std.specs.Prelude.{IsSome}
use Rattle.sim_machine.specs.State.{EventOf, ConditionOf}
use Rattle.sim_machine.specs.Conditions.{count_member}
use Rattle.sim_happen_law.proofs.Changes.Following.{kept_then}
use Rattle.sim_happen_law.proofs.Changes.Judging.{counted_is, checked_pending}
use Rattle.sim_happen.proofs.happen.Happen.check_pending.Goals as goal

pub judge-requires-clause-kept : goal.judge-requires-clause-kept
judge-requires-clause-kept c = kept_then (count_member c.args.condition) _ _ c.args.condition c.count_member.ensures.follows c.requires.kept

pub judge-requires-clause-pending : goal.judge-requires-clause-pending
judge-requires-clause-pending c = ap (λ (x : EventOf). x.outcome) (counted_is _ _ c.args.condition c.requires.kept c.count_member.ensures.follows) ∙ c.requires.pending

pub judge-requires-clause-not_cancelled : goal.judge-requires-clause-not_cancelled
judge-requires-clause-not_cancelled c = ap (λ (x : EventOf). x.cancelled) (counted_is _ _ c.args.condition c.requires.kept c.count_member.ensures.follows) ∙ c.requires.not_cancelled

pub judge-requires-clause-condition : goal.judge-requires-clause-condition
judge-requires-clause-condition c =
    subst (λ (o : Option ConditionOf). IsSome o) (sym (ap (λ (x : EventOf). x.condition) (counted_is _ _ c.args.condition c.requires.kept c.count_member.ensures.follows))) refl

pub judge-requires-clause-member : goal.judge-requires-clause-member
judge-requires-clause-member c = kept_then (count_member c.args.condition) _ _ c.args.member c.count_member.ensures.follows c.requires.member

pub returns-clause-follows : goal.returns-clause-follows
returns-clause-follows c =
    checked_pending _ _ _ c.args.condition c.args.member _ c.requires.kept c.requires.member c.requires.pending c.outcome-outcome.ensures c.count_member.ensures.follows c.judge.ensures.follows
