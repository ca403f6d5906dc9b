use Rattle.std.proofs.Common.{rules, ◌≡◌, refl, sym, ap, ◌∙◌, w64, FitsSigned, Some}
use Rattle.std.specs.Option.{option_map}
use Rattle.std.proofs.lemmas.Int.{to_z-of_z}
use Rattle.sim_procs.specs.RecordOf.{record_of}
use Rattle.sim_steps_model.specs.PartsOf.{control_of}
use Rattle.sim_steps_model.specs.Dropping.{StopsWaiting}
use Rattle.sim_steps_law.proofs.Ends.DroppedProcesses.{drops_then, ends_well_then, scopes_few, stand_then, stops_well, stripped_is}
use Rattle.sim_steps.proofs.parts.Parts.drop_other.Goals as goal

pub leave_scopes-requires-clause-scopes : goal.leave_scopes-requires-clause-scopes
leave_scopes-requires-clause-scopes g c =
    rw (← c.self.view_is) at (scopes_few g.B.LawfulBody.body c.args.other c.args.self.now c.requires.can)

pub leave_scopes-requires-clause-can : goal.leave_scopes-requires-clause-can
leave_scopes-requires-clause-can g c =
    let told = rw c.happen_mut.ensures.value at c.stop_waiting.ensures.stops in
    let stops : StopsWaiting c.in-Some.target c.args.other c.args.self.now.shared.happen c.stop_waiting.new.happen = rw (← c.self.view_is) told in
    let waits : Some c.in-Some.target ≡ option_map (λ r. r.target) (record_of c.args.other c.args.self.now.live) = rw (← c.self.view_is) c.in-Some.ensures in
    let running = rw (← c.self.view_is) at c.requires.running in
    let control = ap (control_of c.self.inside.mode) told.left ∙ sym (stripped_is c.args.other c.self.inside.mode c.self.inside.shared.happen.left c.args.event c.args.process running) in
    stops_well g.B.LawfulBody.body c.args.other c.in-Some.target c.args.self.now c.stop_waiting.new.happen c.requires.can stops waits (rw (← c.self.view_is, control) refl) c.requires.room c.requires.number

pub end_process-requires-clause-alive : goal.end_process-requires-clause-alive
end_process-requires-clause-alive g c =
    let told = rw c.happen_mut.ensures.value at c.stop_waiting.ensures.stops in
    let stops : StopsWaiting c.in-Some.target c.args.other c.args.self.now.shared.happen c.stop_waiting.new.happen = rw (← c.self.view_is) told in
    let waits : Some c.in-Some.target ≡ option_map (λ r. r.target) (record_of c.args.other c.args.self.now.live) = rw (← c.self.view_is) c.in-Some.ensures in
    let running = rw (← c.self.view_is) at c.requires.running in
    let control = ap (control_of c.self.inside.mode) told.left ∙ sym (stripped_is c.args.other c.self.inside.mode c.self.inside.shared.happen.left c.args.event c.args.process running) in
    (ends_well_then g.B.LawfulBody.body c.args.other c.in-Some.target c.args.self.now c.stop_waiting.new.happen c.leave_scopes.new.self c.leave_scopes.ensures.leaves c.requires.can stops waits (rw (← c.self.view_is, control) refl)).alive

pub end_process-requires-clause-is_open : goal.end_process-requires-clause-is_open
end_process-requires-clause-is_open g c =
    let told = rw c.happen_mut.ensures.value at c.stop_waiting.ensures.stops in
    let stops : StopsWaiting c.in-Some.target c.args.other c.args.self.now.shared.happen c.stop_waiting.new.happen = rw (← c.self.view_is) told in
    let waits : Some c.in-Some.target ≡ option_map (λ r. r.target) (record_of c.args.other c.args.self.now.live) = rw (← c.self.view_is) c.in-Some.ensures in
    let running = rw (← c.self.view_is) at c.requires.running in
    let control = ap (control_of c.self.inside.mode) told.left ∙ sym (stripped_is c.args.other c.self.inside.mode c.self.inside.shared.happen.left c.args.event c.args.process running) in
    (ends_well_then g.B.LawfulBody.body c.args.other c.in-Some.target c.args.self.now c.stop_waiting.new.happen c.leave_scopes.new.self c.leave_scopes.ensures.leaves c.requires.can stops waits (rw (← c.self.view_is, control) refl)).is_open

pub end_process-requires-clause-owing : goal.end_process-requires-clause-owing
end_process-requires-clause-owing g c =
    let told = rw c.happen_mut.ensures.value at c.stop_waiting.ensures.stops in
    let stops : StopsWaiting c.in-Some.target c.args.other c.args.self.now.shared.happen c.stop_waiting.new.happen = rw (← c.self.view_is) told in
    let waits : Some c.in-Some.target ≡ option_map (λ r. r.target) (record_of c.args.other c.args.self.now.live) = rw (← c.self.view_is) c.in-Some.ensures in
    let running = rw (← c.self.view_is) at c.requires.running in
    let control = ap (control_of c.self.inside.mode) told.left ∙ sym (stripped_is c.args.other c.self.inside.mode c.self.inside.shared.happen.left c.args.event c.args.process running) in
    (ends_well_then g.B.LawfulBody.body c.args.other c.in-Some.target c.args.self.now c.stop_waiting.new.happen c.leave_scopes.new.self c.leave_scopes.ensures.leaves c.requires.can stops waits (rw (← c.self.view_is, control) refl)).owing

pub end_process-requires-clause-places : goal.end_process-requires-clause-places
end_process-requires-clause-places g c =
    let told = rw c.happen_mut.ensures.value at c.stop_waiting.ensures.stops in
    let stops : StopsWaiting c.in-Some.target c.args.other c.args.self.now.shared.happen c.stop_waiting.new.happen = rw (← c.self.view_is) told in
    let waits : Some c.in-Some.target ≡ option_map (λ r. r.target) (record_of c.args.other c.args.self.now.live) = rw (← c.self.view_is) c.in-Some.ensures in
    let running = rw (← c.self.view_is) at c.requires.running in
    let control = ap (control_of c.self.inside.mode) told.left ∙ sym (stripped_is c.args.other c.self.inside.mode c.self.inside.shared.happen.left c.args.event c.args.process running) in
    stand_then g.B.LawfulBody.body c.args.other c.in-Some.target c.args.self.now c.stop_waiting.new.happen c.leave_scopes.new.self c.leave_scopes.ensures.leaves c.requires.can stops waits (rw (← c.self.view_is, control) refl) g.B.Body.events_held c.requires.places

pub returns-clause-becomes : goal.returns-clause-becomes
returns-clause-becomes g c =
    let told = rw c.happen_mut.ensures.value at c.stop_waiting.ensures.stops in
    let stops : StopsWaiting c.in-Some.target c.args.other c.args.self.now.shared.happen c.stop_waiting.new.happen = rw (← c.self.view_is) told in
    let waits : Some c.in-Some.target ≡ option_map (λ r. r.target) (record_of c.args.other c.args.self.now.live) = rw (← c.self.view_is) c.in-Some.ensures in
    let running = rw (← c.self.view_is) at c.requires.running in
    let control = ap (control_of c.self.inside.mode) told.left ∙ sym (stripped_is c.args.other c.self.inside.mode c.self.inside.shared.happen.left c.args.event c.args.process running) in
    let value : FitsSigned w64 c.args.value = search rules in
    let ends = rw (to_z-of_z w64 c.args.value value) at c.end_process.ensures.becomes in
    drops_then g.B.LawfulBody.body c.args.other c.in-Some.target c.args.self.now c.stop_waiting.new.happen c.leave_scopes.new.self c.leave_scopes.ensures.leaves c.requires.can stops waits (rw (← c.self.view_is, control) refl) c.args.value c.end_process.new.self c.tell.new.self ends c.tell.ensures
