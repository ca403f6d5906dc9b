use Rattle.std.proofs.Common.{◌∙◌, refl}
use Rattle.sim_steps_model.specs.PartsOf.{plan_of}
use Rattle.sim_steps_law.proofs.Polls.Events.{made_becomes}
use Rattle.sim_steps.proofs.parts.Parts.new_event.Goals as goal

pub returns-clause-becomes : goal.returns-clause-becomes
returns-clause-becomes g c =
    let made = rw c.happen_mut.ensures.value at c.make-made.ensures.made in
    let id = rw c.happen_mut.ensures.value at c.make-made.ensures.id in
    rw (← c.self.view_is) (made_becomes (plan_of g.B.LawfulBody.body c.args.self.now) _ c.tell.new.self c.make-made.new.self c.make-made.result c.args.process made id (c.tell.ensures ∙ rw made.left refl))
