use Rattle.std.proofs.Common.{w64, subst, [], ◌∷◌}
use Rattle.std.proofs.lemmas.Int.{to_z-of_z}
use Rattle.sim_types.specs.declared.event.EventKind.TheVariants as kind
use Rattle.sim_types.specs.declared.event.Callback.TheVariants as callback
use Rattle.sim_machine.specs.State.{Take}
use Rattle.sim_machine.specs.Trying as trying
use Rattle.sim_machine.specs.Requests as requests
use Rattle.sim_shared_model.specs.ShowsAll.{FollowsAll}
use Rattle.sim_shared_law.proofs.Waiters.MadeAndTried.{makes_before}
use Rattle.sim_shared_law.proofs.Shown.ShownMeasures.{changes_then}
use Rattle.sim_shared.proofs.shared.Shared.get.Goals as goal

pub returns-clause-ok : goal.returns-clause-ok
returns-clause-ok c =
    let j = c.join_get-event.ensures in
    let joined = rw (to_z-of_z w64 c.args.least c.ranges.least, to_z-of_z w64 c.args.greatest c.ranges.greatest) at j.joined in
    let tried = subst (λ rs. FollowsAll (trying.try_get rs c.args.res) c.join_get-event.new.self c.try_get.new.self) joined.setup c.try_get.ensures.tried in
    makes_before (requests.join kind.Get c.args.res (Take c.args.least c.args.greatest) (callback.TryPut c.args.res)) (trying.try_get c.args.self.now.setup c.args.res) c.args.self.now c.join_get-event.new.self c.try_get.new.self
    joined j.spare tried c.try_get.ensures.spare

pub returns-clause-touched : goal.returns-clause-touched
returns-clause-touched c =
    let j = c.join_get-event in
    changes_then (c.args.res ∷ []) c.args.self.now j.new.self c.try_get.new.self j.ensures.touched c.try_get.ensures.touched
