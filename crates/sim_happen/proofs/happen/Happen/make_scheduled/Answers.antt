use Rattle.std.proofs.Common.{rules, ◌≡◌, ◌∙◌, ◌+◌, ap, refl, arith, ◌+ℤ◌, List, Option, Some, w64, FitsSigned}
use Rattle.std.specs.List.{sum_by}
use Rattle.std.proofs.lemmas.Int.{to_z-of_z}
use Rattle.sim_types.specs.Keys.{KeyOf}
use Rattle.sim_machine.specs.Events.{pending_event}
use Rattle.sim_happen_model.specs.TableOf.{Kept, new_kept}
use Rattle.sim_happen_model.specs.Changes.{with_outcome}
use Rattle.sim_happen_model.specs.Sound.{IsTime, kept_one}
use Rattle.sim_happen_law.proofs.Shown.Signed.{time_after}
use Rattle.sim_happen_law.proofs.Changes.Spares.{places_pushed}
use Rattle.sim_happen_law.proofs.Changes.Soundness.{sum_more}
use Rattle.sim_happen_law.proofs.Changes.MadeScheduled.{place_made, sound_scheduled, spare_scheduled, turns_made_scheduled}
use Rattle.sim_happen.proofs.happen.Happen.make_scheduled.Goals as goal

pub push-requires : goal.push-requires
push-requires c =
    let few = rw (← c.self.view_is) at c.requires.number in
    let spare = rw (← c.self.view_is) at c.requires.spare in
    place_made _ _ c.args.kind c.args.outcome c.make_triggered-event.result c.make_triggered-event.ensures.id few (omega (arith, spare)) c.self.invariant

pub invariant_of-self : goal.invariant_of-self
invariant_of-self c =
    let few = rw (← c.self.view_is) at c.requires.number in
    let spare = rw (← c.self.view_is) at c.requires.spare in
    let fits : FitsSigned w64 c.args.delay = search rules in
    let high = rw (← c.self.view_is) at c.requires.high in
    let key = rw (← c.self.view_is) at c.key_after-key.ensures in
    let due = ap (λ (k : KeyOf). k.time) key ∙ ap (λ d. c.self.inside.time +ℤ d) (to_z-of_z w64 c.args.delay fits) in
    let time : IsTime c.key_after-key.result.time = time_after c.self.inside.time c.args.delay _ due c.self.invariant.clock.low c.requires.not_past high in
    sound_scheduled _ _ c.args.kind c.args.outcome c.make_triggered-event.result c.make_triggered-event.ensures.id few (omega (arith, spare)) c.self.invariant
    _ refl refl c.make_triggered-event.ensures.events _ _ refl (ap (λ (k : KeyOf). k.number) key) time c.push.ensures.entries c.push.ensures.spare

pub returns-clause-made : goal.returns-clause-made
returns-clause-made c =
    let few = rw (← c.self.view_is) at c.requires.number in
    let spare = rw (← c.self.view_is) at c.requires.spare in
    let fits : FitsSigned w64 c.args.delay = search rules in
    let agenda = rw (← c.self.view_is) at (rw c.key_after-key.ensures at c.push.ensures.entries) in
    rw (← c.self.view_is) (turns_made_scheduled _ c.self.inside.agenda.spare c.args.kind c.args.outcome c.make_triggered-event.result c.make_triggered-event.ensures.id few (omega (arith, spare)) c.self.invariant
    _ refl refl c.make_triggered-event.ensures.events c.args.priority c.args.delay _ (to_z-of_z w64 c.args.delay fits) agenda c.make_triggered-event.ensures.left)

pub returns-clause-spare : goal.returns-clause-spare
returns-clause-spare c =
    let t = c.self.inside.table in
    let u = c.make_triggered-event.new.self in
    let made : Option Kept = Some (with_outcome c.args.outcome (new_kept (pending_event c.args.kind))) in
    let kept : sum_by kept_one u.events ≡ sum_by kept_one t.events + 1 = ap (λ (es : List (Option Kept)). sum_by kept_one es) c.make_triggered-event.ensures.events ∙ sum_more kept_one t.events made in
    let agenda = places_pushed c.self.inside.agenda c.push.new.agenda _ c.push.ensures.entries c.push.ensures.spare in
    rw (← c.self.view_is) (spare_scheduled c.self.inside.agenda c.push.new.agenda t u c.make_triggered-event.ensures.spare kept agenda (rw (← c.self.view_is) at c.requires.spare))
