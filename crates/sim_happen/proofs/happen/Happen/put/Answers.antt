use Rattle.std.proofs.Common.{rules, ◌∙◌, ap, refl, ◌+ℤ◌, List, Option, w64, FitsSigned}
use Rattle.std.specs.List.{sum_by}
use Rattle.std.proofs.lemmas.Int.{to_z-of_z}
use Rattle.sim_types.specs.Keys.{KeyOf}
use Rattle.sim_happen_model.specs.TableOf.{Kept, TableOf}
use Rattle.sim_happen_model.specs.Sound.{IsTime, kept_one}
use Rattle.sim_happen_law.proofs.Shown.Signed.{time_after}
use Rattle.sim_happen_law.proofs.Shown.KeptPlaces.{sum_same}
use Rattle.sim_happen_law.proofs.Changes.Spares.{spare_same, places_pushed}
use Rattle.sim_happen_law.proofs.Changes.Following.{follows_put}
use Rattle.sim_happen_law.proofs.Changes.Soundness.{place_found, sound_put}
use Rattle.sim_happen.proofs.happen.Happen.put.Goals as goal

pub push-requires : goal.push-requires
push-requires c =
    let kept = rw (← c.self.view_is) at c.requires.kept in
    let pending = c.in-Ok.ensures.pending.0 refl in
    place_found _ _ c.args.event kept pending c.self.invariant

pub invariant_of-self-in-Ok : goal.invariant_of-self-in-Ok
invariant_of-self-in-Ok c =
    let kept = rw (← c.self.view_is) at c.requires.kept in
    let pending = c.in-Ok.ensures.pending.0 refl in
    let fits : FitsSigned w64 c.args.delay = search rules in
    let high = rw (← c.self.view_is) at c.requires.high in
    let key = rw (← c.self.view_is) at c.key_after-key.ensures in
    let due = ap (λ (k : KeyOf). k.time) key ∙ ap (λ d. c.self.inside.time +ℤ d) (to_z-of_z w64 c.args.delay fits) in
    let time : IsTime c.key_after-key.result.time = time_after c.self.inside.time c.args.delay _ due c.self.invariant.clock.low c.requires.not_past high in
    sound_put _ _ _ _ c.args.event c.args.outcome _ kept pending (rw (← c.self.view_is) at c.requires.not_cancelled) refl (ap (λ (k : KeyOf). k.number) key) time refl refl c.push.ensures.entries c.in-Ok.ensures.events c.push.ensures.spare c.self.invariant

pub returns-in-Ok-clause-ok : goal.returns-in-Ok-clause-ok
returns-in-Ok-clause-ok c =
    let kept = rw (← c.self.view_is) at c.requires.kept in
    let fits : FitsSigned w64 c.args.delay = search rules in
    let agenda = rw (← c.self.view_is) at (rw c.key_after-key.ensures at c.push.ensures.entries) in
    rw (← c.self.view_is) (follows_put _ _ c.args.event c.args.outcome c.args.priority c.args.delay _ (to_z-of_z w64 c.args.delay fits) kept refl refl agenda c.in-Ok.ensures.events (ap (λ (t : TableOf). t.left) c.in-Ok.ensures.rest))

pub returns-in-Ok-clause-spare : goal.returns-in-Ok-clause-spare
returns-in-Ok-clause-spare c =
    let set = ap (λ (es : List (Option Kept)). sum_by kept_one es) c.in-Ok.ensures.events in
    let kept = set ∙ sum_same kept_one c.self.inside.table.events c.args.event _ (rw (← c.self.view_is) at c.requires.kept) refl in
    let places = places_pushed c.self.inside.agenda c.push.new.agenda _ c.push.ensures.entries c.push.ensures.spare in
    rw (← c.self.view_is) (spare_same c.self.inside.agenda c.push.new.agenda c.self.inside.table c.set.new.self (ap (λ (t : TableOf). t.spare) c.in-Ok.ensures.rest) kept places)
