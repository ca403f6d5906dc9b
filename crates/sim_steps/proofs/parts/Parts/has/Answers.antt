use Rattle.std.proofs.Common.{rules, ◌∙◌, ap, w64, FitsSigned}
use Rattle.std.proofs.lemmas.Int.{to_z-of_z}
use Rattle.sim_types.specs.declared.event.Signal.TheVariants as signal
use Rattle.sim_steps_model.specs.PartsOf.{plan_of}
use Rattle.sim_steps_law.proofs.Polls.AskedConditions.{has_becomes}
use Rattle.sim_steps.proofs.parts.Parts.has.Goals as goal

pub returns-clause-becomes : goal.returns-clause-becomes
returns-clause-becomes g c =
    let number : FitsSigned w64 c.number_of.result = search rules in
    let told = ap (λ n. signal.Number n) (to_z-of_z w64 c.number_of.result number ∙ c.number_of.ensures) in
    let tells = rw (c.happen.ensures, ap (λ v. v.shared.happen) c.self.view_is) at c.has-has.ensures.has in
    has_becomes (plan_of g.B.LawfulBody.body c.args.self.now) _ c.tell.new.self c.args.process c.args.condition c.args.other c.has-has.result _ tells told c.tell.ensures
