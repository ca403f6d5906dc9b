use Rattle.std.proofs.Common.{Some}
use Rattle.sim_procs.proofs.Places.{found_at, guessed_at}
use Rattle.sim_procs.proofs.procs.Procs.seek_other.Goals as goal

pub returns-then-is_at-clause-place : goal.returns-then-is_at-clause-place
returns-then-is_at-clause-place g c =
    let has = rw c.as_slice.ensures.value at (c.is_at.ensures c.if-is_at.true) in
    rw (← c.self.view_is) (guessed_at c.args.id c.self.inside.index.places c.self.inside.records.items c.in-Some.hint.now c.self.invariant.indexed has)

pub returns-in_ok-at-in-Some-clause-place : goal.returns-in_ok-at-in-Some-clause-place
returns-in_ok-at-in-Some-clause-place g c = rw (← c.self.view_is) (found_at c.args.id c.self.inside.index.places c.self.inside.records.items (Some c.in_ok-at-in-Some.at) c.self.invariant.indexed c.in_ok-at-in-Some.ensures)
