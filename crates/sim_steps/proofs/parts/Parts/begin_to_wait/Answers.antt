use Rattle.std.proofs.Common.{◌∙◌, refl}
use Rattle.sim_steps_law.proofs.Kernels.Running.{mapped_is}
use Rattle.sim_steps_law.proofs.Polls.Waiting.{waited_owes}
use Rattle.sim_steps.proofs.parts.Parts.begin_to_wait.Goals as goal

pub returns-clause-owes : goal.returns-clause-owes
returns-clause-owes g c =
    let registers = rw (← c.self.view_is) at c.hold_to_resume.ensures.owes in
    let r = mapped_is _ _ c.replace_target-left.result c.replace_target-left.ensures.before in
    waited_owes _ _ c.rest.new.self c.args.on c.args.process r.0 c.replace_target-left.result r.1 r.2 c.requires.kept c.requires.unprocessed registers
    (c.rest.ensures ∙ rw c.replace_target-left.ensures.after refl)
