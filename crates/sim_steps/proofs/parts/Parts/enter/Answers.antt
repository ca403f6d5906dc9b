use Rattle.std.proofs.Common.{rules, w64, FitsSigned, ◌∙◌, refl}
use Rattle.std.proofs.lemmas.Int.{to_z-of_z}
use Rattle.sim_steps_law.proofs.Scopes.EnteringScopes.{enters, request_few, request_kept, victim_becomes}
use Rattle.sim_steps.proofs.parts.Parts.enter.Goals as goal

pub hold-requires-clause-kept : goal.hold-requires-clause-kept
hold-requires-clause-kept g c =
    let priority : FitsSigned w64 c.args.priority = search rules in
    let ensures = rw (to_z-of_z w64 c.args.priority priority) at c.in-Ok.ensures in
    let ready = rw (← c.self.view_is) at c.requires.ready in
    request_kept c.args.res c.args.process c.args.priority c.args.preempts c.self.inside.shared c.request.new.self c.in-Ok.request ensures.id ensures.ok ready.shown

pub hold-requires-clause-few : goal.hold-requires-clause-few
hold-requires-clause-few g c =
    let few = rw (← c.self.view_is) at c.requires.few in
    request_few _ c.self.inside.shared c.request.new.self c.in-Ok.ensures.ok few

pub returns-in-Err-clause-becomes : goal.returns-in-Err-clause-becomes
returns-in-Err-clause-becomes g c =
    let priority : FitsSigned w64 c.args.priority = search rules in
    let refused = rw (to_z-of_z w64 c.args.priority priority) at c.in-Err.ensures.refused in
    rw (← c.self.view_is) (victim_becomes g.B.LawfulBody.body c.args.process c.args.res c.args.priority c.args.preempts _ c.tell-in-Err.new.self c.self.invariant.resources refused (c.tell-in-Err.ensures ∙ rw c.in-Err.ensures.err refl))

pub returns-in-Ok-clause-becomes : goal.returns-in-Ok-clause-becomes
returns-in-Ok-clause-becomes g c =
    let priority : FitsSigned w64 c.args.priority = search rules in
    let ensures = rw (to_z-of_z w64 c.args.priority priority) at c.in-Ok.ensures in
    let made = ensures.ok in
    let room = rw (← c.self.view_is) at c.requires.scopes in
    let taken = c.hold.ensures in
    rw (← c.self.view_is) (enters c.args.process c.args.res c.args.priority c.args.preempts c.request.new.self c.in-Ok.request c.hold.new.self _ c.tell.new.self room taken.owes taken.rest c.self.invariant.resources (rw made.turns.left refl) ensures.id made ensures.refused (rw (← c.self-in-Ok.view_is, c.push_scope.ensures) refl) c.tell.ensures)
