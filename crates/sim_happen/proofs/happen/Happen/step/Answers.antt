use Rattle.std.proofs.Common.{rules, ◌∙◌, ap, refl, List, Option, w64, FitsSigned}
use Rattle.std.specs.List.{sum_by}
use Rattle.std.proofs.lemmas.Int.{to_z-of_z}
use Rattle.sim_happen_model.specs.TableOf.{Kept}
use Rattle.sim_happen_model.specs.Sound.{kept_one}
use Rattle.sim_happen_law.proofs.Shown.KeptPlaces.{sum_same}
use Rattle.sim_happen_law.proofs.Changes.Spares.{spare_same, places_popped}
use Rattle.sim_happen_law.proofs.Entries.Due.{entry_awaits, awaiting_kept, awaits_parts}
use Rattle.sim_happen_law.proofs.Entries.PoppedEntries.{pops_entry}
use Rattle.sim_happen_law.proofs.Changes.Soundness.{sound_popped}
use Rattle.sim_happen.proofs.happen.Happen.step.Goals as goal

pub begin-kind-requires-clause-kept : goal.begin-kind-requires-clause-kept
begin-kind-requires-clause-kept c =
    awaiting_kept c.self.inside.table.events c.in-Some.entry.event (entry_awaits _ _ c.in-Some.entry c.self.inside.table.events c.in-Some.ensures.due c.self.invariant.awaiting).0

pub begin-kind-requires-clause-triggered : goal.begin-kind-requires-clause-triggered
begin-kind-requires-clause-triggered c =
    (awaits_parts c.self.inside.table.events c.in-Some.entry.event (entry_awaits _ _ c.in-Some.entry c.self.inside.table.events c.in-Some.ensures.due c.self.invariant.awaiting).0).0

pub begin-kind-requires-clause-unprocessed : goal.begin-kind-requires-clause-unprocessed
begin-kind-requires-clause-unprocessed c =
    (awaits_parts c.self.inside.table.events c.in-Some.entry.event (entry_awaits _ _ c.in-Some.entry c.self.inside.table.events c.in-Some.ensures.due c.self.invariant.awaiting).0).1

pub invariant_of-self-in-Some : goal.invariant_of-self-in-Some
invariant_of-self-in-Some c =
    let fits : FitsSigned w64 c.parts-time.result.0 = search rules in
    let time = to_z-of_z w64 c.parts-time.result.0 fits ∙ c.parts-time.ensures.time in
    sound_popped _ _ _ _ c.in-Some.entry c.in-Some.ensures.due time refl c.begin-kind.ensures.events c.in-Some.ensures.spare c.self.invariant

pub returns-in-Some-clause-steps : goal.returns-in-Some-clause-steps
returns-in-Some-clause-steps c =
    let fits : FitsSigned w64 c.parts-time.result.0 = search rules in
    let time = to_z-of_z w64 c.parts-time.result.0 fits ∙ c.parts-time.ensures.time in
    let kept = awaiting_kept c.self.inside.table.events c.in-Some.entry.event (entry_awaits _ _ c.in-Some.entry c.self.inside.table.events c.in-Some.ensures.due c.self.invariant.awaiting).0 in
    rw (← c.self.view_is) (
      c.in-Some.entry,
      pops_entry _ _ c.in-Some.entry _ c.in-Some.ensures.due c.self.invariant.entries.distinct kept time refl c.begin-kind.ensures.events c.begin-kind.ensures.left
          (λ y same. rw (time, c.parts-time.ensures.priority, c.parts-time.ensures.number, c.begin-kind.ensures.kind, c.begin-kind.ensures.outcome, same) refl),
    )

pub returns-in-Some-clause-spare : goal.returns-in-Some-clause-spare
returns-in-Some-clause-spare c =
    let kept = awaiting_kept c.self.inside.table.events c.in-Some.entry.event (entry_awaits _ _ c.in-Some.entry c.self.inside.table.events c.in-Some.ensures.due c.self.invariant.awaiting).0 in
    let set = ap (λ (es : List (Option Kept)). sum_by kept_one es) c.begin-kind.ensures.events in
    let same = set ∙ sum_same kept_one c.self.inside.table.events c.in-Some.entry.event _ kept refl in
    let places = places_popped c.self.inside.agenda c.pop.new.agenda c.in-Some.entry c.in-Some.ensures.due.others c.in-Some.ensures.spare in
    rw (← c.self.view_is) (spare_same c.self.inside.agenda c.pop.new.agenda c.self.inside.table c.begin-kind.new.table c.begin-kind.ensures.spare same places)
