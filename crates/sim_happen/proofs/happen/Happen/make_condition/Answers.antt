use Rattle.std.proofs.Common.{◌+◌, ◌≤◌, ◌∙◌, ap, sym, subst, arith, List, if◌then◌else◌}
use Rattle.std.specs.List.{sum_by}
use Rattle.sim_types.specs.declared.event.EventId.{EventId}
use Rattle.sim_machine.specs.State.{AllOrAny, Every, Either, EventOf}
use Rattle.sim_machine.specs.Conditions.{most_weight}
use Rattle.sim_happen_model.specs.Sound.{weight_in}
use Rattle.sim_happen_law.proofs.Conditions.MadeConditions.{kept_beside, condition_is, joining_new, turns_made_condition, sum_alike}
use Rattle.sim_happen.proofs.happen.Happen.make_condition.Goals as goal

pub add_condition-condition-requires-clause-light : goal.add_condition-condition-requires-clause-light
add_condition-condition-requires-clause-light c =
    let same = sum_alike (weight_in most_weight c.hold_each.new.self.events) (weight_in most_weight c.args.self.now.events) c.args.members.now (c.hold_each.ensures.weights most_weight) in
    subst (λ (ms : List EventId). 1 + sum_by (weight_in most_weight c.hold_each.new.self.events) ms ≤ most_weight) (sym c.copied.ensures) (omega (arith, same, c.requires.light))

pub join_all-requires-clause-pending : goal.join_all-requires-clause-pending
join_all-requires-clause-pending c =
    let sort : AllOrAny = if c.args.for_all then Every else Either in
    ap (λ (x : EventOf). x.outcome) (condition_is sort c.copied.result _ _ c.add_condition-condition.result c.add_condition-condition.ensures.made c.add_condition-condition.ensures.id).1

pub join_all-requires-clause-joining : goal.join_all-requires-clause-joining
join_all-requires-clause-joining c =
    let sort : AllOrAny = if c.args.for_all then Every else Either in
    rw (← c.copied.ensures) (joining_new sort c.copied.result _ (condition_is sort c.copied.result _ _ c.add_condition-condition.result c.add_condition-condition.ensures.made c.add_condition-condition.ensures.id).1)

pub join_all-requires-clause-members : goal.join_all-requires-clause-members
join_all-requires-clause-members c = λ k d within. kept_beside c.hold_each.new.self c.add_condition-condition.new.self _ c.add_condition-condition.ensures.made.held (c.hold_each.ensures.kept k d within)

pub returns-clause-made : goal.returns-clause-made
returns-clause-made c =
    let sort : AllOrAny = if c.args.for_all then Every else Either in
    turns_made_condition sort c.args.members.now _ _ _ _ c.add_condition-condition.result c.hold_each.ensures.held (rw c.copied.ensures at c.add_condition-condition.ensures.made) c.join_all.ensures.follows
    (c.add_condition-condition.ensures.id ∙ c.hold_each.ensures.made)
