use Rattle.std.proofs.Common.{◌∙◌, refl}
use Rattle.sim_procs.specs.RecordOf.{record_of, scope_of}
use Rattle.sim_steps_law.proofs.Scopes.HeldScopes.{found_scope, released_becomes}
use Rattle.sim_steps.proofs.parts.Parts.release.Goals as goal

pub release-requires-clause-res : goal.release-requires-clause-res
release-requires-clause-res g c =
    let takes = rw (← c.self.view_is, ← c.in-Some.ensures) at c.requires.scope in
    rw c.self.invariant.resources takes.within

pub release-requires-clause-slots : goal.release-requires-clause-slots
release-requires-clause-slots g c =
    let takes = rw (← c.self.view_is, ← c.in-Some.ensures) at c.requires.scope in
    rw c.self.invariant.resources takes.slots

pub returns-clause-becomes : goal.returns-clause-becomes
returns-clause-becomes g c =
    let own = found_scope (scope_of c.args.request) (record_of c.args.process c.self.inside.processes.live) c.in-Some.scope c.in-Some.ensures in
    let released = c.release.ensures.released in
    rw (← c.self.view_is) (released_becomes _ c.tell.new.self c.args.process own.0 c.args.request c.in-Some.scope c.release.new.self own.1 own.2 released (c.tell.ensures ∙ rw released.left refl))
