use Rattle.std.proofs.Common.{rules, w64, FitsSigned, ◌∙◌}
use Rattle.std.proofs.lemmas.Int.{to_z-of_z}
use Rattle.sim_steps_model.specs.PartsOf.{plan_of}
use Rattle.sim_steps_law.proofs.Polls.Polls.{drawn_becomes, empty_becomes}
use Rattle.sim_steps.proofs.parts.Parts.draw.Goals as goal

pub returns-else-hi-lo-clause-becomes : goal.returns-else-hi-lo-clause-becomes
returns-else-hi-lo-clause-becomes g c =
    let lo : FitsSigned w64 c.args.lo = search rules in
    let hi : FitsSigned w64 c.args.hi = search rules in
    let drawn : FitsSigned w64 c.number_between.result = search rules in
    let number = to_z-of_z w64 c.number_between.result drawn ∙ (rw (to_z-of_z w64 c.args.lo lo, to_z-of_z w64 c.args.hi hi) at c.number_between.ensures) in
    let some = rw (to_z-of_z w64 c.args.lo lo, to_z-of_z w64 c.args.hi hi) at c.if-hi-lo.false in
    rw (← c.self.view_is) (drawn_becomes g.B.LawfulBody.body _ c.tell-else-hi-lo.new.self c.args.lo c.args.hi _ _ _ some c.next_word-word.ensures number c.tell-else-hi-lo.ensures)

pub returns-then-hi-lo-clause-becomes : goal.returns-then-hi-lo-clause-becomes
returns-then-hi-lo-clause-becomes g c =
    let lo : FitsSigned w64 c.args.lo = search rules in
    let hi : FitsSigned w64 c.args.hi = search rules in
    let none = rw (to_z-of_z w64 c.args.lo lo, to_z-of_z w64 c.args.hi hi) at c.if-hi-lo.true in
    empty_becomes (plan_of g.B.LawfulBody.body c.args.self.now) c.args.self.now c.tell.new.self c.args.lo c.args.hi none c.tell.ensures
