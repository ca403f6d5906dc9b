use Rattle.std.proofs.Common.{◌^◌, arith}
use Rattle.sim_steps_law.proofs.Kernels.Keeping.{held_by_few}
use Rattle.sim_steps.proofs.parts.Parts.add_condition.Goals as goal

pub all_of-requires-clause-few : goal.all_of-requires-clause-few
all_of-requires-clause-few g c = rw c.happen_mut.ensures.value (held_by_few (2 ^ 41) c.self.inside.shared.happen (omega arith) (rw (← c.self.view_is) at c.requires.few))

pub any_of-requires-clause-few : goal.any_of-requires-clause-few
any_of-requires-clause-few g c =
    rw c.happen_mut-else-for_all.ensures.value (held_by_few (2 ^ 41) c.self.inside.shared.happen (omega arith) (rw (← c.self.view_is) at c.requires.few))
