use Rattle.std.proofs.Common.{◌∙◌, refl}
use Rattle.std.proofs.lemmas.Bool.{false≢true, false_from_ne_true}
use Rattle.sim_steps_law.proofs.Polls.AskedConditions.{condition_becomes, wide_becomes}
use Rattle.sim_steps.proofs.parts.Parts.make_condition.Goals as goal

pub returns-in-Ok-clause-becomes : goal.returns-in-Ok-clause-becomes
returns-in-Ok-clause-becomes g c =
    let x = c.add_condition.new.self.shared.happen in
    let kept = rw (← c.copied.ensures) at c.requires.members in
    rw (← c.copied.ensures) (condition_becomes _ _ x c.in-Ok.condition _ c.copied.result c.in-Ok.ensures.few kept
    (λ d s. false_from_ne_true _ (λ wide. false≢true ((c.in-Ok.ensures.wide d s).1 wide))) c.in-Ok.ensures.ok c.in-Ok.ensures.id
    (c.tell.ensures ∙ rw (c.in-Ok.ensures.rest, c.in-Ok.ensures.ok.left) refl))

pub returns-in-Err-clause-becomes : goal.returns-in-Err-clause-becomes
returns-in-Err-clause-becomes g c =
    rw (← c.copied.ensures) (wide_becomes _ _ _ c.copied.result (λ d s. (c.in-Err.ensures.wide d s).0 refl)
    (c.tell-in-Err.ensures ∙ rw c.in-Err.ensures.err refl))
