use Rattle.sim_procs.proofs.Places.{guessed_at}
use Rattle.sim_procs.proofs.procs.Procs.place.Goals as goal

pub returns-then-is_at : goal.returns-then-is_at
returns-then-is_at g c =
    let has = rw c.as_slice.ensures.value at (c.is_at.ensures c.if-is_at.true) in
    rw (← c.self.view_is) (guessed_at c.args.id c.self.inside.index.places c.self.inside.records.items c.self.inside.sought c.self.invariant.indexed has)
