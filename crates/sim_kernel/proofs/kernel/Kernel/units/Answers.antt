-- Room is made, and then units in a row.
use Rattle.sim_steps_model.specs.Touching.{touched_places}
use Rattle.sim_steps_law.proofs.Kernels.Rooms.{roomier_stands_for_some}
use Rattle.sim_kernel.proofs.QuietUnits.{after_units}
use Rattle.sim_kernel.proofs.UnitSteps.{roomier_holds, stands_for_some}
use Rattle.sim_kernel.proofs.kernel.Kernel.units.Goals as goal

pub invariant_of-self : goal.invariant_of-self
invariant_of-self g c =
    roomier_holds g.B.LawfulBody.body c.self.inside.units c.self.inside.parts c.reserve_for_next.new.self c.reserve_for_next.ensures.kept c.self.invariant

pub units-units-requires-clause-stands : goal.units-units-requires-clause-stands
units-units-requires-clause-stands g c =
    let old = c.self.inside.parts in
    roomier_stands_for_some g.B.LawfulBody.body old c.reserve_for_next.new.self c.reserve_for_next.ensures.kept
    (stands_for_some g.B.LawfulBody.body c.self.inside.units old c.self.invariant)

pub invariant_of-self-2 : goal.invariant_of-self-2
invariant_of-self-2 g c =
    let old = c.self.inside.parts in
    rw c.from.ensures
    (after_units g.B.LawfulBody.body c.self.inside.units old c.self.invariant (g.B.LawfulBody.lawful old.code)
    c.reserve_for_next.new.self c.reserve_for_next.ensures.kept
    c.units-units.result.made c.units-units.result.last
    (touched_places c.units-units.result.touched c.units-units.new.listed) c.units-units.new.self c.units-units.ensures.moves
    c.units-units.ensures.touched c.slots-known.ensures.resources).holds

pub returns-clause-steps : goal.returns-clause-steps
returns-clause-steps g c =
    let old = c.self.inside.parts in
    rw (← c.self.view_is)
    ((after_units g.B.LawfulBody.body c.self.inside.units old c.self.invariant (g.B.LawfulBody.lawful old.code)
    c.reserve_for_next.new.self c.reserve_for_next.ensures.kept
    c.units-units.result.made c.units-units.result.last
    (touched_places c.units-units.result.touched c.units-units.new.listed) c.units-units.new.self c.units-units.ensures.moves
    c.units-units.ensures.touched c.slots-known.ensures.resources).steps c.slots-known.ensures.needed)

pub returns-clause-opened : goal.returns-clause-opened
returns-clause-opened g c =
    let old = c.self.inside.parts in
    rw (← c.self.view_is)
    (after_units g.B.LawfulBody.body c.self.inside.units old c.self.invariant (g.B.LawfulBody.lawful old.code)
    c.reserve_for_next.new.self c.reserve_for_next.ensures.kept
    c.units-units.result.made c.units-units.result.last
    (touched_places c.units-units.result.touched c.units-units.new.listed) c.units-units.new.self c.units-units.ensures.moves
    c.units-units.ensures.touched c.slots-known.ensures.resources).opened
