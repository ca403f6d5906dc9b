use Rattle.std.proofs.Common.{◌∙◌, ap, set, get_or}
use Rattle.std.proofs.lemmas.List.Edits.{map_over_more}
use Rattle.sim_resource.specs.GrantOrder.{with_number}
use Rattle.sim_resource.proofs.NewNumbers.{changed, unchanged}
use Rattle.sim_resource.proofs.users.change_number.Goals as goal
use Rattle.sim_resource.proofs.users.change_number.Goals.{then-numbered-from, else-numbered-from}

pub loop-numbered-preserved : goal.loop-numbered-preserved
loop-numbered-preserved c =
    let gs = c.loop-numbered.users in
    let i = c.loop-numbered.numbered-index in
    let g = c.numbered-item.result in
    let further = map_over_more (with_number c.args.from c.args.to) c.args.users.now gs i g c.loop-numbered-test.true c.loop-numbered.invariant c.numbered-item.is in
    elim c.if-numbered-from.branch [
      | then-numbered-from w ↦ w.users-is ∙ (ap (set gs i) (changed c.args.from c.args.to g (get_or gs i g) c.numbered-item.is w.if-numbered-from.true) ∙ further)
      | else-numbered-from w ↦ w.users-is ∙ (ap (set gs i) (unchanged c.args.from c.args.to g (get_or gs i g) c.numbered-item.is w.if-numbered-from.false) ∙ further)
    ]
