use Rattle.std.proofs.Common.{rules, ◌∙◌, ap, refl, Err, w64, FitsSigned}
use Rattle.std.proofs.lemmas.Int.{to_z-of_z}
use Rattle.sim_steps_law.proofs.Polls.Signed.{is_below, not_below, no_error, not_late, late_is}
use Rattle.sim_steps_law.proofs.Polls.Waiting.{timeout_makes, negative_refuses, late_refuses}
use Rattle.sim_steps.proofs.parts.Parts.make_timeout.Goals as goal

pub returns-in-Ok-clause-made : goal.returns-in-Ok-clause-made
returns-in-Ok-clause-made g c =
    let delay : FitsSigned w64 c.args.delay = search rules in
    let value : FitsSigned w64 c.args.value = search rules in
    let ensures = rw (to_z-of_z w64 c.args.delay delay, to_z-of_z w64 c.args.value value, c.happen_mut.ensures.value) at c.in-Ok.ensures in
    let positive = not_below _ _ (λ h. no_error _ _ (ensures.negative.1 h)) in
    rw (← c.self.view_is) (timeout_makes _ c.args.delay c.args.value _ c.in-Ok.timeout positive (not_late _ _ (λ h. no_error _ _ (ensures.late.1 h)) positive) ensures.ok ensures.id (rw ensures.ok.left refl))

pub returns-in-Err-NegativeDelay-clause-refused : goal.returns-in-Err-NegativeDelay-clause-refused
returns-in-Err-NegativeDelay-clause-refused g c =
    let delay : FitsSigned w64 c.args.delay = search rules in
    let negative = rw (to_z-of_z w64 c.args.delay delay) at c.in-Err-NegativeDelay.ensures.negative in
    let same = rw c.happen_mut.ensures.value at c.in-Err-NegativeDelay.ensures.err in
    rw (← c.self.view_is) (negative_refuses _ c.args.delay c.args.value c.tell.new.self (is_below _ _ (negative.0 (ap (λ x. Err x) c.in-Err-NegativeDelay.field-0-is))) (c.tell.ensures ∙ rw same refl))

pub returns-in-Err-TimeLimit-clause-refused : goal.returns-in-Err-TimeLimit-clause-refused
returns-in-Err-TimeLimit-clause-refused g c =
    let delay : FitsSigned w64 c.args.delay = search rules in
    let late = rw (to_z-of_z w64 c.args.delay delay, c.happen_mut.ensures.value) at c.in-Err-TimeLimit.ensures.late in
    let same = rw c.happen_mut.ensures.value at c.in-Err-TimeLimit.ensures.err in
    let is = late_is _ _ (late.0 (ap (λ x. Err x) c.in-Err-TimeLimit.field-0-is)) in
    rw (← c.self.view_is) (late_refuses _ c.args.delay c.args.value c.tell-in-Err-TimeLimit.new.self is.0 is.1 (c.tell-in-Err-TimeLimit.ensures ∙ rw same refl))
