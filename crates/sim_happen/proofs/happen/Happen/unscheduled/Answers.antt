use Rattle.std.proofs.Common.{arith}
use Rattle.sim_happen_law.proofs.Changes.Spares.{scheduled_sum, kept_few}
use Rattle.sim_happen.proofs.happen.Happen.unscheduled.Goals as goal

pub overflow_sub-result : goal.overflow_sub-result
overflow_sub-result c =
    omega (arith, c.len.ensures, c.slots.ensures.count, c.self.invariant.awaiting.all, scheduled_sum c.self.inside.table.events)

pub returns : goal.returns
returns c =
    let fewer = scheduled_sum c.self.inside.table.events in
    let few = kept_few c.self.inside.table.events in
    rw (← c.self.view_is) (record {
      count = omega (arith, c.len.ensures, c.slots.ensures.count, c.self.invariant.awaiting.all, fewer);
      few = omega (arith, c.slots.ensures.count, few, c.self.invariant.few);
    })
