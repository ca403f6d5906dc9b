use Rattle.sim_procs.proofs.Places.{guessed_at, room_stored}
use Rattle.sim_procs.proofs.procs.Procs.seek.Goals as goal

pub returns-then-is_at-clause-place : goal.returns-then-is_at-clause-place
returns-then-is_at-clause-place g c =
    let has = rw c.as_slice.ensures.value at (c.is_at.ensures c.if-is_at.true) in
    rw (← c.self.view_is) (guessed_at c.args.id c.self.inside.index.places c.self.inside.records.items c.self.inside.sought c.self.invariant.indexed has)

pub returns-then-is_at-clause-room : goal.returns-then-is_at-clause-room
returns-then-is_at-clause-room g c = rw (← c.self.view_is) (room_stored c.args.id c.self.inside.index.places c.self.inside.room.value c.self.inside.records.items c.self.invariant)

pub returns-clause-room : goal.returns-clause-room
returns-clause-room g c = rw (← c.self.view_is) (room_stored c.args.id c.self.inside.index.places c.self.inside.room.value c.self.inside.records.items c.self.invariant)
