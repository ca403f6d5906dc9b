use Rattle.std.proofs.Common.{◌∙◌, arith}
use Rattle.std.proofs.lemmas.Bool.{false≢true}
use Rattle.sim_index.specs.Entries.{gone}
use Rattle.sim_index.proofs.Changing.{place_of_live}
use Rattle.sim_index.proofs.Keeping.{looked_up_nowhere, place_there, live_there, some_live, sound_moved, places_moved}
use Rattle.sim_index.proofs.index.Index.remove.Goals as goal

pub invariant_of-self : goal.invariant_of-self
invariant_of-self c =
    let found = rw c.as_slice.ensures.value at c.in-Some.ensures in
    let some = rw (← c.self.view_is) at c.requires in
    let x = c.index_mut-entry.result.now in
    let one = some_live _ _ _ _ c.args.number c.in-Some.at x c.self.invariant found c.index_mut-entry.ensures.value some in
    sound_moved _ _ _ _ c.args.number c.in-Some.at x c.self.invariant found c.index_mut-entry.ensures.value gone _ some (omega arith) (omega (arith, c.self.invariant.room))

pub unreachable-requires : goal.unreachable-requires
unreachable-requires c =
    let none = rw c.as_slice.ensures.value at c.in-None.ensures in
    let some = rw (← c.self.view_is) at c.requires in
    false≢true (rw (looked_up_nowhere _ _ _ _ c.self.invariant c.args.number none) at some)

pub returns-clause-place : goal.returns-clause-place
returns-clause-place c =
    let found = rw c.as_slice.ensures.value at c.in-Some.ensures in
    let some = rw (← c.self.view_is) at c.requires in
    let x = c.index_mut-entry.result.now in
    rw (← c.self.view_is) (place_there _ _ _ _ c.args.number c.in-Some.at x c.self.invariant found c.index_mut-entry.ensures.value ∙ place_of_live x (live_there _ _ _ _ c.args.number c.in-Some.at x c.self.invariant found c.index_mut-entry.ensures.value some))

pub returns-clause-places : goal.returns-clause-places
returns-clause-places c =
    let found = rw c.as_slice.ensures.value at c.in-Some.ensures in
    rw (← c.self.view_is) (places_moved _ _ _ _ c.args.number c.in-Some.at c.index_mut-entry.result.now c.self.invariant found c.index_mut-entry.ensures.value gone)
