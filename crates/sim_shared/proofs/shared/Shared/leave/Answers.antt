use Rattle.std.proofs.Common.{[], ◌∷◌}
use Rattle.sim_machine.specs.Requests as requests
use Rattle.sim_happen_model.specs.HappenOf.{unheld_event}
use Rattle.sim_shared_model.specs.Waiting.{gone_if_waits, waits_anywhere}
use Rattle.sim_shared_law.proofs.Waiters.CancelledEvents.{cancelled_here}
use Rattle.sim_shared_law.proofs.Shown.FollowingFacilities.{turns_all_then}
use Rattle.sim_shared_law.proofs.Waiters.MadeEvents.{leaves_room}
use Rattle.sim_shared_law.proofs.Shown.ShownMeasures.{changes_then}
use Rattle.sim_shared.proofs.shared.Shared.leave.Goals as goal

pub returns-clause-left : goal.returns-clause-left
returns-clause-left c =
    let w = c.cancel_open_at-waited in
    turns_all_then (requests.cancel c.args.request) (requests.make_release c.args.res c.args.request)
    (gone_if_waits (waits_anywhere c.args.request c.args.self.now.resources) c.args.request) unheld_event c.args.self.now w.new.self c.release.new.self
    (cancelled_here c.args.self.now w.new.self c.args.request c.args.res w.result c.requires.here w.ensures.waited w.ensures.cancelled w.ensures.same)
    c.release.ensures.released

pub returns-clause-room : goal.returns-clause-room
returns-clause-room c =
    let w = c.cancel_open_at-waited in
    leaves_room c.args.self.now.happen w.new.self.happen c.release.new.self.happen w.ensures.room w.ensures.never_less c.release.ensures.released.held c.release.ensures.spare

pub returns-clause-touched : goal.returns-clause-touched
returns-clause-touched c =
    let w = c.cancel_open_at-waited in
    changes_then (c.args.res ∷ []) c.args.self.now w.new.self c.release.new.self w.ensures.touched c.release.ensures.touched
