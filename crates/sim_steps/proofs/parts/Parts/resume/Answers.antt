use Rattle.std.proofs.Common.{◌∙◌, refl}
use Rattle.sim_steps_model.specs.PartsOf.{plan_of}
use Rattle.sim_steps_law.proofs.Callbacks.Calls.{resumed_becomes}
use Rattle.sim_steps.proofs.parts.Parts.resume.Goals as goal

pub returns-clause-becomes : goal.returns-clause-becomes
returns-clause-becomes g c =
    resumed_becomes (plan_of g.B.LawfulBody.body c.args.self.now) c.args.self.now c.run.new.self c.defuse_told.new.self.shared.happen
    c.args.event c.args.process c.signal_by-told.result c.requires.calling c.requires.kept c.signal_by-told.ensures c.defuse_told.ensures.follows
    (c.run.ensures ∙ rw c.defuse_told.ensures.rest refl)
