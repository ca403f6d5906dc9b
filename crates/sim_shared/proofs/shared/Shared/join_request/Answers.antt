use Rattle.std.proofs.Common.{w64, [], ◌∷◌}
use Rattle.std.proofs.lemmas.Int.{to_z-of_z}
use Rattle.sim_types.specs.declared.event.EventKind.TheVariants as kind
use Rattle.sim_types.specs.declared.event.Callback.TheVariants as callback
use Rattle.sim_machine.specs.State.{Waiter, Slot}
use Rattle.sim_shared_law.proofs.Waiters.JoinedWaiters.{turns_joined}
use Rattle.sim_shared_law.proofs.Waiters.RequestsAndAmounts.{turns_requested}
use Rattle.sim_shared_law.proofs.Waiters.JoinedEvents.{absent_next, all_open_joined}
use Rattle.sim_shared_law.proofs.Shown.ShownMeasures.{joined_changes, happens_first}
use Rattle.sim_shared.proofs.shared.Shared.join_request.Goals as goal

pub queue_request-requires-clause-absent : goal.queue_request-requires-clause-absent
queue_request-requires-clause-absent c =
    let m = c.make-event in
    absent_next kind.Request (callback.TryGet c.args.res) c.args.self.now m.new.self m.result m.ensures.made m.ensures.id m.ensures.rest c.requires.shown

pub returns-clause-joined : goal.returns-clause-joined
returns-clause-joined c =
    let m = c.make-event in
    let waits = c.queue_request.ensures in
    turns_requested c.args.self.now c.queue_request.new.self c.args.res c.args.process c.args.priority _ c.args.preempts c.request_key-key.result (to_z-of_z w64 c.args.priority c.ranges.priority) c.request_key-key.ensures
    (turns_joined kind.Request (callback.TryGet c.args.res) c.args.res (Slot c.args.process c.request_key-key.result) c.args.self.now m.new.self c.queue_request.new.self m.result m.ensures.id c.requires.res m.ensures.made waits)

pub returns-clause-open : goal.returns-clause-open
returns-clause-open c =
    let m = c.make-event in
    let waits = c.queue_request.ensures in
    let w : Waiter = record { event = m.result; res = c.args.res; want = Slot c.args.process c.request_key-key.result } in
    all_open_joined kind.Request (callback.TryGet c.args.res) c.args.self.now m.new.self c.queue_request.new.self w m.ensures.made m.ensures.id c.requires.res waits m.ensures.open c.requires.shown c.requires.open

pub returns-clause-touched : goal.returns-clause-touched
returns-clause-touched c =
    let m = c.make-event in
    let q = c.queue_request in
    happens_first (c.args.res ∷ []) c.args.self.now m.new.self q.new.self m.ensures.rest (joined_changes _ m.new.self q.new.self q.ensures)
