use Rattle.std.proofs.Common.{refl}
use Rattle.sim_procs.specs.RecordOf.{begun_record}
use Rattle.sim_procs.proofs.Places.{added_stored, not_placed}
use Rattle.sim_procs.proofs.procs.Procs.add.Goals as goal

pub give_place-requires-clause-none : goal.give_place-requires-clause-none
give_place-requires-clause-none g c = not_placed c.self.inside.records.items (begun_record c.args.id c.args.body c.args.target c.self.inside.room.value) c.self.inside.index.places c.self.inside.index.places c.self.invariant.indexed (rw (← c.self.view_is) at c.requires.new)

pub invariant_of-self : goal.invariant_of-self
invariant_of-self g c =
    let scopes = rw (← c.self.view_is) at c.requires.scopes in
    rw (c.push_reserved.ensures.items, c.new.ensures, scopes)
    (added_stored c.self.inside.records.items (begun_record c.args.id c.args.body c.args.target c.self.inside.room.value) c.self.inside.index.places c.give_place.new.index.places c.self.invariant.indexed (rw (← c.self.view_is) at c.requires.new) c.self.inside.room.value c.self.invariant.rooms refl (rw c.as_slice-place.ensures.value at c.give_place.ensures.places))
