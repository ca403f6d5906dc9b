use Rattle.std.proofs.Common.{◌∙◌, refl}
use Rattle.sim_steps_law.proofs.Polls.Events.{unrefused, triggered_becomes}
use Rattle.sim_steps.proofs.parts.Parts.trigger_by.Goals as goal

pub returns-in-Ok-clause-becomes : goal.returns-in-Ok-clause-becomes
returns-in-Ok-clause-becomes g c =
    triggered_becomes c.args.self.now c.tell.new.self c.trigger.new.self.shared.happen c.args.triggered c.args.outcome c.requires.kept (unrefused _ c.in-Ok.ensures.refused) c.in-Ok.ensures.ok (c.tell.ensures ∙ rw c.in-Ok.ensures.rest refl)
