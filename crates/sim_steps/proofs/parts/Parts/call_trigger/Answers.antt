use Rattle.std.proofs.Common.{refl}
use Rattle.sim_steps_model.specs.PartsOf.{plan_of}
use Rattle.sim_steps_law.proofs.Kernels.Accounting.{owing_holder}
use Rattle.sim_steps_law.proofs.Callbacks.Calls.{trigger_called}
use Rattle.sim_steps.proofs.parts.Parts.call_trigger.Goals as goal

pub trigger-requires-clause-held : goal.trigger-requires-clause-held
trigger-requires-clause-held g c = rw c.happen_mut.ensures.value (owing_holder c.args.other _ (rw (← c.self.view_is) at c.requires.owing))

pub returns-clause-owes : goal.returns-clause-owes
returns-clause-owes g c =
    let calling = rw (← c.self.view_is) at c.requires.calling in
    let kept = rw (← c.self.view_is) at c.requires.kept in
    let owing = rw (← c.self.view_is) at c.requires.owing in
    let passes = rw c.happen_mut.ensures.value at c.trigger.ensures.passes in
    rw (← c.self.view_is) (trigger_called (plan_of g.B.LawfulBody.body c.args.self.now) _ _ c.trigger.new.self c.args.event c.args.other calling kept owing passes (rw (passes.rest, passes.follows.left) refl))
