use Rattle.std.proofs.Common.{refl, sym, ◌∙◌, ap, subst}
use Rattle.std.specs.Prelude.{is_some}
use Rattle.sim_machine.specs.Events.{unregister, is_resume_of}
use Rattle.sim_happen_model.specs.Shows.{Follows}
use Rattle.sim_happen_law.proofs.Changes.TakenResumptions.{resume_taken}
use Rattle.sim_steps_model.specs.PartsOf.{plan_of}
use Rattle.sim_steps_law.proofs.Kernels.Running.{mapped_is}
use Rattle.sim_steps_law.proofs.Polls.Interruptions.{left_calling, some_mapped_is, struck_becomes, not_struck}
use Rattle.sim_steps.proofs.parts.Parts.strike.Goals as goal

pub returns-in-Some-clause-becomes : goal.returns-in-Some-clause-becomes
returns-in-Some-clause-becomes g c =
    let p = c.args.process in
    let kept = rw (← c.self.view_is) at c.requires.kept in
    let calling = rw (← c.self.view_is) at c.requires.calling in
    let told = rw (← c.self.view_is) at c.signal_of-told.ensures in
    let r = mapped_is _ _ c.in-Some.target (sym c.in-Some.ensures) in
    let taken = resume_taken _ _ _ _ (rw c.happen_mut.ensures.value at c.unregister.ensures.follows) in
    let follows = subst (λ e. Follows (unregister e (is_resume_of p)) c.self.inside.shared.happen c.unregister.new.self) (sym r.2) taken in
    let left = left_calling c.self.inside.mode c.self.inside.shared.happen.left c.args.event calling ∙ sym taken.left in
    rw (← c.self.view_is) (struck_becomes (plan_of g.B.LawfulBody.body c.args.self.now) _ _ c.unregister.new.self c.args.event p r.0 c.signal_of-told.result calling kept r.1 follows told left refl)

pub returns-in_default-clause-becomes : goal.returns-in_default-clause-becomes
returns-in_default-clause-becomes g c =
    let calling = rw (← c.self.view_is) at c.requires.calling in
    let ended = sym (some_mapped_is _ _) ∙ ap is_some (sym c.in_default.ensures) in
    rw (← c.self.view_is) (not_struck (plan_of g.B.LawfulBody.body c.args.self.now) _ c.args.event c.args.process calling ended)
