use Rattle.std.proofs.Common.{◌∙◌, ap, arith}
use Rattle.sim_index.specs.IndexOf.{with_number}
use Rattle.sim_index.proofs.Keeping.{length_places, sound_same, places_same, sound_pushed, places_pushed}
use Rattle.sim_index.proofs.index.Index.insert.Goals as goal

pub invariant_of-self : goal.invariant_of-self
invariant_of-self c =
    let same = sound_same _ _ _ _ _ c.self.invariant c.compact_if_full.ensures.same in
    let high = rw (← c.self.view_is, length_places) at c.requires.number in
    let spare = rw (← c.self.view_is) at c.requires.spare in
    let kept = rw (← c.compact_if_full.ensures.capacity, ← c.push_reserved.ensures.capacity) at same in
    rw c.push_reserved.ensures.items (sound_pushed _ (record { number = c.args.number; place = c.args.place }) _ _ _ kept high c.requires.place (omega arith))

pub returns-clause-places : goal.returns-clause-places
returns-clause-places c =
    let same = sound_same _ _ _ _ _ c.self.invariant c.compact_if_full.ensures.same in
    let high = rw (← c.self.view_is, length_places) at c.requires.number in
    let places = places_same _ _ _ _ _ c.self.invariant c.compact_if_full.ensures.same in
    rw (c.push_reserved.ensures.items, ← c.self.view_is) (places_pushed _ (record { number = c.args.number; place = c.args.place }) _ _ _ same high c.requires.place ∙ ap (with_number c.args.number c.args.place) places)
