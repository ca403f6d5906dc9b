use Rattle.std.proofs.Common.{FitsSigned, w64, rules}
use Rattle.std.proofs.lemmas.Int.{to_z-of_z}
use Rattle.sim_steps_law.proofs.Kernels.Rooms.{roomier_stands_for_some}
use Rattle.sim_kernel.proofs.Arrivals.{arrival_holds, begun_is_few, makes_arrival}
use Rattle.sim_kernel.proofs.UnitSteps.{roomier_holds}
use Rattle.sim_kernel.proofs.kernel.Kernel.arrive.Goals as goal

pub invariant_of-self : goal.invariant_of-self
invariant_of-self g c = roomier_holds g.B.LawfulBody.body c.self.inside.units c.self.inside.parts c.reserve.new.self c.reserve.ensures.kept c.self.invariant

pub arrive-line-requires-clause-stands : goal.arrive-line-requires-clause-stands
arrive-line-requires-clause-stands g c =
    let h = c.self.invariant in
    roomier_stands_for_some g.B.LawfulBody.body c.self.inside.parts c.reserve.new.self c.reserve.ensures.kept (record { state = h.state; lawful = h.lawful; stands = h.stands; balances = h.balances })

pub invariant_of-self-2 : goal.invariant_of-self-2
invariant_of-self-2 g c =
    let old = c.self.inside.parts in
    let fits : FitsSigned w64 c.args.value = search rules in
    let becomes = rw (to_z-of_z w64 c.args.value fits) at c.arrive-line.ensures.becomes in
    arrival_holds g.B.LawfulBody.body c.args.port c.args.value old c.reserve.new.self c.arrive-line.new.self c.self.invariant.fits (g.B.LawfulBody.lawful old.code)
    (rw (← c.self.view_is) at c.requires.port) c.reserve.ensures.kept begun_is_few becomes c.slots-known.ensures.needed c.self.inside.units c.self.invariant c.slots-known.ensures.resources

pub returns-clause-arrives : goal.returns-clause-arrives
returns-clause-arrives g c =
    let old = c.self.inside.parts in
    let fits : FitsSigned w64 c.args.value = search rules in
    let becomes = rw (to_z-of_z w64 c.args.value fits) at c.arrive-line.ensures.becomes in
    let line = rw (to_z-of_z w64 c.args.value fits) at c.arrive-line.ensures.line in
    rw (← c.self.view_is)
    (makes_arrival g.B.LawfulBody.body c.args.port c.args.value old c.reserve.new.self c.arrive-line.new.self c.self.invariant.fits (g.B.LawfulBody.lawful old.code)
    (rw (← c.self.view_is) at c.requires.port) c.reserve.ensures.kept begun_is_few becomes c.slots-known.ensures.needed c.arrive-line.result line)
