use Rattle.std.proofs.Common.{◌∙◌, ap, arith, set}
use Rattle.std.proofs.lemmas.Bool.{false≢true}
use Rattle.sim_index.specs.declared.entries.Entry.{Entry}
use Rattle.sim_index.proofs.Changing.{live_within, place_within}
use Rattle.sim_index.proofs.Keeping.{looked_up_nowhere, sound_moved, places_moved}
use Rattle.sim_index.proofs.index.Index.set.Goals as goal

pub invariant_of-self : goal.invariant_of-self
invariant_of-self c =
    let found = rw c.as_slice.ensures.value at c.in-Some.ensures in
    let some = rw (← c.self.view_is) at c.requires.there in
    let x = c.index_mut-entry.result.now in
    let e : Entry = record { number = x.number; place = c.args.place } in
    sound_moved _ _ _ _ c.args.number c.in-Some.at x c.self.invariant found c.index_mut-entry.ensures.value c.args.place _ some (rw (live_within e c.requires.place) (omega arith)) (omega (arith, c.self.invariant.room))

pub unreachable-requires : goal.unreachable-requires
unreachable-requires c =
    let none = rw c.as_slice.ensures.value at c.in-None.ensures in
    let some = rw (← c.self.view_is) at c.requires.there in
    false≢true (rw (looked_up_nowhere _ _ _ _ c.self.invariant c.args.number none) at some)

pub returns-clause-places : goal.returns-clause-places
returns-clause-places c =
    let found = rw c.as_slice.ensures.value at c.in-Some.ensures in
    let x = c.index_mut-entry.result.now in
    let e : Entry = record { number = x.number; place = c.args.place } in
    rw (← c.self.view_is) (places_moved _ _ _ _ c.args.number c.in-Some.at x c.self.invariant found c.index_mut-entry.ensures.value c.args.place ∙ ap (set _ c.args.number) (place_within e c.requires.place))
