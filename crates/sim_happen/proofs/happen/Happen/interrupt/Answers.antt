use Rattle.sim_types.specs.declared.event.EventKind.TheVariants as kind
use Rattle.sim_types.specs.declared.event.Callback.TheVariants as callback
use Rattle.sim_happen_law.proofs.Changes.NewEvents.{is_new, new_registered, new_defused, not_refused, turns_interruption}
use Rattle.sim_happen.proofs.happen.Happen.interrupt.Goals as goal

pub register-requires-clause-unprocessed : goal.register-requires-clause-unprocessed
register-requires-clause-unprocessed c = (is_new kind.Interrupt _ _ c.make-event.result c.make-event.ensures.made c.make-event.ensures.id).unprocessed

pub put_now-put-requires-clause-not_cancelled : goal.put_now-put-requires-clause-not_cancelled
put_now-put-requires-clause-not_cancelled c =
    let e = c.make-event.result in
    (new_defused _ _ e c.defuse.ensures.follows (new_registered (callback.Strike c.args.process) _ _ e c.register.ensures.follows (is_new kind.Interrupt _ _ e c.make-event.ensures.made c.make-event.ensures.id))).uncancelled

pub returns-clause-made : goal.returns-clause-made
returns-clause-made c =
    let e = c.make-event.result in
    let new = new_defused _ _ e c.defuse.ensures.follows (new_registered (callback.Strike c.args.process) _ _ e c.register.ensures.follows (is_new kind.Interrupt _ _ e c.make-event.ensures.made c.make-event.ensures.id)) in
    turns_interruption c.args.process c.args.what _ _ _ _ _ e c.make-event.ensures.made c.make-event.ensures.id c.register.ensures.follows c.defuse.ensures.follows
    (not_refused _ _ _ c.put_now-put.ensures.refused new.pending c.put_now-put.ensures.ok)
