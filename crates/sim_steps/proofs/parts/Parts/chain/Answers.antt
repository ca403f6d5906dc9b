use Rattle.std.proofs.Common.{◌∙◌, refl}
use Rattle.sim_steps_law.proofs.Polls.Events.{chain_becomes}
use Rattle.sim_steps.proofs.parts.Parts.chain.Goals as goal

pub returns-in-Ok-clause-becomes : goal.returns-in-Ok-clause-becomes
returns-in-Ok-clause-becomes g c =
    let source = rw (← c.self.view_is) at c.requires.source in
    let other = rw (← c.self.view_is) at c.requires.other in
    let ensures = rw c.happen_mut.ensures.value at c.in-Ok.ensures in
    rw (← c.self.view_is) (chain_becomes _ c.tell.new.self c.chain.new.self c.args.source c.args.other source other ensures.refused ensures.registered ensures.passed (λ same. c.tell.ensures ∙ rw same refl))
