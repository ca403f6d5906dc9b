use Rattle.std.proofs.Common.{◌≡◌, ◌+◌, ◌^◌, ◌∷◌, ◌∙◌, ap, refl, subst, sym, arith}
use Rattle.std.specs.Prelude.{is_some}
use Rattle.std.specs.List.Sorted.{IsPermutation}
use Rattle.sim_types.specs.declared.event.EventId.{EventId}
use Rattle.sim_happen_model.specs.TableOf.{IsKept}
use Rattle.sim_happen_model.specs.HappenOf.{held}
use Rattle.sim_procs.specs.RecordOf.{begun_record}
use Rattle.sim_machine.specs.Bodies.{start_of}
use Rattle.sim_steps_model.specs.Becoming.{AreFew}
use Rattle.sim_steps_model.specs.Opening.{next_init, next_process}
use Rattle.sim_steps_law.proofs.Starts.Beginning.{arguments_still, begun_becomes, begun_few, begun_kept, begun_stand, kept_still}
use Rattle.sim_steps_law.proofs.Kernels.Keeping.{few_weaker, held_by_few}
use Rattle.sim_steps.proofs.parts.Parts.begin.Goals as goal

pub hold-requires-clause-few : goal.hold-requires-clause-few
hold-requires-clause-few g c =
    let made = rw c.happen_mut.ensures.value at c.make_process.ensures.made in
    held_by_few (2 ^ 41) c.make_process.new.happen (omega arith)
    (begun_few (2 ^ 41) c.self.inside.shared.happen c.make_process.new.happen made (rw (← c.self.view_is) at c.requires.few))

pub hold_places-requires-clause-kept : goal.hold_places-requires-clause-kept
hold_places-requires-clause-kept g c =
    let body = g.B.LawfulBody.body in
    let code = c.args.code.now in
    let a = c.self.inside.shared.happen in
    let x = c.make_process.new.happen in
    let p = next_process a in
    let made = rw c.happen_mut.ensures.value at c.make_process.ensures.made in
    let own : c.own.new.self ≡ start_of body code c.args.kind c.args.args.now p =
    c.own.ensures ∙ rw (c.fill.ensures, c.make_process.ensures.process, c.happen_mut.ensures.value) refl in
    let kept = rw (← c.self.view_is) at c.requires.kept in
    let still : (e : EventId) → IsKept a.events e → IsKept c.self-2.inside.shared.happen.events e =
    λ e is. subst (λ k. IsKept k.shared.happen.events e) (sym c.self-2.view_is) (c.hold.ensures.takes.kept e (kept_still a x made e is)) in
    rw own
    (begun_kept body code g.B.Body.events_held (g.B.Body.told_place code) (g.B.LawfulBody.lawful code)
    (record { places = g.met.B.Body.places code; others = g.met.B.Body.other_places_stay code })
    c.args.kind c.args.args.now p c.requires.can c.self-2.inside.shared.happen.events
    (arguments_still (body.facts code) c.args.kind c.args.args.now a.events c.self-2.inside.shared.happen.events still kept))

pub hold_places-requires-clause-few : goal.hold_places-requires-clause-few
hold_places-requires-clause-few g c =
    let made = rw c.happen_mut.ensures.value at c.make_process.ensures.made in
    let few = begun_few (2 ^ 41) c.self.inside.shared.happen c.make_process.new.happen made (rw (← c.self.view_is) at c.requires.few) in
    subst (λ k. AreFew (2 ^ 42) (held k.shared.happen)) (sym c.self-2.view_is)
    (few_weaker (2 ^ 41 + 1) (2 ^ 42) (held c.hold.new.self.shared.happen) (omega arith) (c.hold.ensures.owes.few.few (2 ^ 41) few))

pub returns-clause-becomes : goal.returns-clause-becomes
returns-clause-becomes g c =
    let body = g.B.LawfulBody.body in
    let code = c.self.inside.code.value in
    let a = c.self.inside.shared.happen in
    let x = c.make_process.new.happen in
    let p = next_process a in
    let made = rw c.happen_mut.ensures.value at c.make_process.ensures.made in
    let same : c.args.code.now ≡ code = c.requires.code ∙ ap (λ k. k.code) (sym c.self.view_is) in
    let can = rw same at c.requires.can in
    let own : c.own.new.self ≡ start_of body code c.args.kind c.args.args.now p =
    c.own.ensures ∙ rw (c.fill.ensures, c.make_process.ensures.process, c.happen_mut.ensures.value, same) refl in
    let none = rw (← c.self.view_is) at c.requires.not_alive in
    let init = rw (c.make_process.ensures.init, c.happen_mut.ensures.value) at c.hold.ensures.owes in
    let places = rw own at c.hold_places.ensures.owes in
    let stand = begun_stand body code g.B.Body.events_held (g.B.Body.told_place code) (g.B.LawfulBody.lawful code)
    (record { places = g.met.B.Body.places code; others = g.met.B.Body.other_places_stay code })
    c.args.kind c.args.args.now p can in
    let joined = rw (c.make_process.ensures.process, c.make_process.ensures.init, c.happen_mut.ensures.value, own) at c.add.ensures.live in
    let room = c.self-in-Some.inside.processes.room in
    let record_made = begun_record p (start_of body code c.args.kind c.args.args.now p) (next_init a) room in
    let others = subst (λ k. IsPermutation (record_made ∷ k.live) c.add.new.self.live) c.self-in-Some.view_is joined in
    rw (← c.self.view_is)
    (begun_becomes body _ c.args.kind c.args.args.now room x _ c.hold.new.self _ c.hold_places.new.self _
    (g.B.Body.events_held (start_of body code c.args.kind c.args.args.now p)) c.add.new.self.live (is_some c.take.new.self) c.add.new.self.spare
    none made (rw made.left refl) init c.hold.ensures.rest (rw (← c.self-2.view_is) refl) places c.hold_places.ensures.rest stand others
    (rw (← c.self-in-Some.view_is) refl))
