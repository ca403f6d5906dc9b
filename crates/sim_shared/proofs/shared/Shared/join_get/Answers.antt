use Rattle.std.proofs.Common.{w64, [], ◌∷◌}
use Rattle.std.proofs.lemmas.Int.{to_z-of_z}
use Rattle.sim_types.specs.declared.event.EventKind.TheVariants as kind
use Rattle.sim_types.specs.declared.event.Callback.TheVariants as callback
use Rattle.sim_machine.specs.State.{Waiter, Take}
use Rattle.sim_shared_law.proofs.Waiters.JoinedWaiters.{turns_joined}
use Rattle.sim_shared_law.proofs.Waiters.JoinedEvents.{absent_next, all_open_joined}
use Rattle.sim_shared_law.proofs.Shown.ShownMeasures.{joined_changes, happens_first}
use Rattle.sim_shared.proofs.shared.Shared.join_get.Goals as goal

pub queue_get-requires-clause-absent : goal.queue_get-requires-clause-absent
queue_get-requires-clause-absent c =
    let m = c.make-event in
    absent_next kind.Get (callback.TryPut c.args.res) c.args.self.now m.new.self m.result m.ensures.made m.ensures.id m.ensures.rest c.requires.shown

pub returns-clause-joined : goal.returns-clause-joined
returns-clause-joined c =
    let m = c.make-event in
    let waits = rw (to_z-of_z w64 c.args.least c.ranges.least, to_z-of_z w64 c.args.greatest c.ranges.greatest) at c.queue_get.ensures in
    turns_joined kind.Get (callback.TryPut c.args.res) c.args.res (Take c.args.least c.args.greatest) c.args.self.now m.new.self c.queue_get.new.self m.result m.ensures.id c.requires.res m.ensures.made waits

pub returns-clause-open : goal.returns-clause-open
returns-clause-open c =
    let m = c.make-event in
    let waits = rw (to_z-of_z w64 c.args.least c.ranges.least, to_z-of_z w64 c.args.greatest c.ranges.greatest) at c.queue_get.ensures in
    let w : Waiter = record { event = m.result; res = c.args.res; want = Take c.args.least c.args.greatest } in
    all_open_joined kind.Get (callback.TryPut c.args.res) c.args.self.now m.new.self c.queue_get.new.self w m.ensures.made m.ensures.id c.requires.res waits m.ensures.open c.requires.shown c.requires.open

pub returns-clause-touched : goal.returns-clause-touched
returns-clause-touched c =
    let m = c.make-event in
    let q = c.queue_get in
    happens_first (c.args.res ∷ []) c.args.self.now m.new.self q.new.self m.ensures.rest (joined_changes _ m.new.self q.new.self q.ensures)
