use Rattle.sim_procs.proofs.Places.{apart, has_place, last_found, taken_stored}
use Rattle.sim_procs.proofs.Records.{gone_once_taken, others_once_taken}
use Rattle.sim_procs.proofs.procs.Procs.take.Goals as goal

pub remove-requires : goal.remove-requires
remove-requires g c = has_place c.args.id c.self.inside.records.items c.in_ok-at.at c.self.inside.index.places c.self.invariant.indexed (rw (← c.self.view_is) at c.in_ok-at.ensures)

pub find_at-requires : goal.find_at-requires
find_at-requires g c =
    rw (c.as_slice.ensures.value, c.swap_remove-taken.ensures.items, c.remove.ensures.places)
    (last_found c.args.id c.self.inside.records.items c.in_ok-at.at c.swap_remove-taken.result c.self.inside.index.places c.self.invariant.indexed (rw (← c.self.view_is) at c.in_ok-at.ensures))

pub invariant_of-self : goal.invariant_of-self
invariant_of-self g c =
    rw (c.find_at.ensures.places, c.as_slice.ensures.value, c.swap_remove-taken.ensures.items, c.remove.ensures.places)
    (taken_stored c.args.id c.self.inside.records.items c.in_ok-at.at c.swap_remove-taken.result c.self.inside.index.places c.self.invariant.indexed (rw (← c.self.view_is) at c.in_ok-at.ensures) c.self.inside.room.value c.self.invariant.rooms c.swap_remove-taken.ensures.value)

pub returns-clause-gone : goal.returns-clause-gone
returns-clause-gone g c =
    rw c.swap_remove-taken.ensures.items (gone_once_taken c.args.id c.self.inside.records.items c.in_ok-at.at c.swap_remove-taken.result (apart c.self.inside.index.places c.self.inside.records.items c.self.invariant.indexed) (rw (← c.self.view_is) at c.in_ok-at.ensures) c.swap_remove-taken.ensures.value)

pub returns-clause-others : goal.returns-clause-others
returns-clause-others g c other differ =
    rw (← c.self.view_is) (rw c.swap_remove-taken.ensures.items (others_once_taken c.args.id other c.self.inside.records.items c.in_ok-at.at c.swap_remove-taken.result (apart c.self.inside.index.places c.self.inside.records.items c.self.invariant.indexed) (rw (← c.self.view_is) at c.in_ok-at.ensures) c.swap_remove-taken.ensures.value differ))
