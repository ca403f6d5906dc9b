use Rattle.std.proofs.Common.{◌∙◌, ap, arith, Some, set}
use Rattle.sim_index.specs.IndexOf.{place_of_number}
use Rattle.sim_index.specs.declared.entries.Entry.{Entry}
use Rattle.sim_index.proofs.Keeping.{length_places, sound_same, places_same, sound_put, places_put}
use Rattle.sim_index.proofs.index.Index.insert_earlier.Goals as goal

pub put-requires-clause-rising : goal.put-requires-clause-rising
put-requires-clause-rising c = (sound_same _ _ _ _ _ c.self.invariant c.compact_if_full.ensures.same).rising

pub invariant_of-self : goal.invariant_of-self
invariant_of-self c =
    let same = sound_same _ _ _ _ _ c.self.invariant c.compact_if_full.ensures.same in
    let places = places_same _ _ _ _ _ c.self.invariant c.compact_if_full.ensures.same in
    let low = rw (← c.self.view_is, length_places) at c.requires.number in
    let spare = rw (← c.self.view_is) at c.requires.spare in
    let none = rw (← c.self.view_is) at c.requires.none in
    let kept = rw (← c.compact_if_full.ensures.capacity, ← c.put.ensures.capacity) at same in
    let e : Entry = record { number = c.args.number; place = c.args.place } in
    sound_put _ _ e _ _ _ kept c.put.ensures.put low c.requires.place (ap (place_of_number c.args.number) places ∙ none) (omega arith)

pub returns-clause-places : goal.returns-clause-places
returns-clause-places c =
    let same = sound_same _ _ _ _ _ c.self.invariant c.compact_if_full.ensures.same in
    let places = places_same _ _ _ _ _ c.self.invariant c.compact_if_full.ensures.same in
    let low = rw (← c.self.view_is, length_places) at c.requires.number in
    let e : Entry = record { number = c.args.number; place = c.args.place } in
    rw (← c.self.view_is) (places_put _ _ e _ _ _ same c.put.ensures.put low c.requires.place ∙ ap (λ ps. set ps c.args.number (Some c.args.place)) places)
