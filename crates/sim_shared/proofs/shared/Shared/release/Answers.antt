use Rattle.std.proofs.Common.{[], ◌∷◌}
use Rattle.sim_shared_law.proofs.Waiters.MadeEvents.{release_made}
use Rattle.sim_shared_law.proofs.Shown.ShownMeasures.{happens_first, happens_then}
use Rattle.sim_shared.proofs.shared.Shared.release.Goals as goal

pub returns-clause-released : goal.returns-clause-released
returns-clause-released c =
    release_made c.args.self.now c.make-event.new.self c.end_use.new.self c.succeed.new.self c.make-event.result c.args.request c.args.res
    c.make-event.ensures.id c.make-event.ensures.made c.end_use.ensures.follows c.succeed.ensures.follows

pub returns-clause-touched : goal.returns-clause-touched
returns-clause-touched c =
    let a = c.args.self.now in
    let m = c.make-event in
    let used = happens_first (c.args.res ∷ []) a m.new.self c.end_use.new.self m.ensures.rest c.end_use.ensures.touched in
    happens_then (c.args.res ∷ []) a c.end_use.new.self c.succeed.new.self used c.succeed.ensures.rest
