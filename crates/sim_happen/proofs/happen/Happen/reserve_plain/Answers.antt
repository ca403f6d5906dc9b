use Rattle.std.proofs.Common.{arith}
use Rattle.std.proofs.lemmas.Bool.{false≢true}
use Rattle.sim_happen_law.proofs.Changes.Spares.{places_are}
use Rattle.sim_happen.proofs.happen.Happen.reserve_plain.Goals as goal

pub returns-in_err-reserve-clause-ready : goal.returns-in_err-reserve-clause-ready
returns-in_err-reserve-clause-ready c =
    let count = rw (← c.self.view_is) at c.unscheduled-unscheduled.ensures.count in
    rw (← c.self.view_is) (λ events callbacks.
    let places = places_are c.self.inside.agenda c.self.inside.table _ c.self.invariant.places events in
    absurd (false≢true (c.in_err-reserve.ensures.succeeds (omega (arith, count, places)))))
