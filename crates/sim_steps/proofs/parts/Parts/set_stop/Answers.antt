use Rattle.sim_steps_law.proofs.Kernels.Rooms.{sets_stop_then}
use Rattle.sim_steps.proofs.parts.Parts.set_stop.Goals as goal

pub returns-clause-sets : goal.returns-clause-sets
returns-clause-sets g c =
    let rest = rw c.happen_mut.ensures.value at c.reserve.ensures.rest in
    let sets = rw c.happen_mut-2.ensures.value at c.set_stop.ensures in
    rw (← c.self.view_is) (sets_stop_then _ c.self.inside.shared.happen c.reserve.new.self _ rest sets)
