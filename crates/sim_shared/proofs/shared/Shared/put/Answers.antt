use Rattle.std.proofs.Common.{w64, subst, [], ◌∷◌}
use Rattle.std.proofs.lemmas.Int.{to_z-of_z}
use Rattle.sim_types.specs.declared.event.EventKind.TheVariants as kind
use Rattle.sim_types.specs.declared.event.Callback.TheVariants as callback
use Rattle.sim_machine.specs.State.{Give}
use Rattle.sim_machine.specs.Trying as trying
use Rattle.sim_machine.specs.Requests as requests
use Rattle.sim_shared_model.specs.Making.{MakesAll}
use Rattle.sim_shared_law.proofs.Waiters.MadeAndTried.{makes_after}
use Rattle.sim_shared_law.proofs.Shown.ShownMeasures.{changes_then}
use Rattle.sim_shared.proofs.shared.Shared.put.Goals as goal

pub returns-clause-ok : goal.returns-clause-ok
returns-clause-ok c =
    let j = c.join_put-event.ensures in
    let joined = rw (to_z-of_z w64 c.args.amount c.ranges.amount, to_z-of_z w64 c.args.priority c.ranges.priority) at j.joined in
    let tried = subst (λ rs. MakesAll 1 (trying.try_put rs c.args.res) c.join_put-event.new.self c.try_put.new.self) joined.setup c.try_put.ensures.tried in
    makes_after 1 (requests.join kind.Put c.args.res (Give c.args.amount c.args.priority) (callback.TryGet c.args.res)) (trying.try_put c.args.self.now.setup c.args.res) c.args.self.now c.join_put-event.new.self c.try_put.new.self
    joined j.spare tried

pub returns-clause-touched : goal.returns-clause-touched
returns-clause-touched c =
    let j = c.join_put-event in
    changes_then (c.args.res ∷ []) c.args.self.now j.new.self c.try_put.new.self j.ensures.touched c.try_put.ensures.touched
