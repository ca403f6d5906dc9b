use Rattle.sim_happen_law.proofs.Changes.NewEvents.{is_new}
use Rattle.sim_shared_law.proofs.Waiters.MadeEvents.{turns_made_with, made_open}
use Rattle.sim_shared.proofs.shared.Shared.make.Goals as goal

pub register-requires-clause-unprocessed : goal.register-requires-clause-unprocessed
register-requires-clause-unprocessed c =
    (is_new c.args.kind _ _ c.make-event.result c.make-event.ensures.made c.make-event.ensures.id).unprocessed

pub returns-clause-made : goal.returns-clause-made
returns-clause-made c =
    rw (← c.self.view_is) (turns_made_with c.args.kind c.args.after _ c.make-event.new.self c.register.new.self c.make-event.result
    c.make-event.ensures.id c.make-event.ensures.made c.register.ensures.follows)

pub returns-clause-open : goal.returns-clause-open
returns-clause-open c =
    made_open c.args.kind c.args.after c.self.inside.happen c.make-event.new.self c.register.new.self c.make-event.result c.make-event.ensures.id
    c.make-event.ensures.made c.register.ensures.follows
