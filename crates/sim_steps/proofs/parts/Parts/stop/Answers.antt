use Rattle.sim_types.specs.declared.event.Callback.TheVariants as callback
use Rattle.sim_steps_model.specs.Calling.{called}
use Rattle.sim_steps_model.specs.PartsOf.{plan_of}
use Rattle.sim_steps_law.proofs.Kernels.Becoming.{becomes_then}
use Rattle.sim_steps.proofs.parts.Parts.stop.Goals as goal

pub returns-clause-becomes : goal.returns-clause-becomes
returns-clause-becomes g c =
    let stops = called (plan_of g.B.LawfulBody.body c.args.self.now) c.args.event callback.Stop in
    becomes_then stops (λ s. s) c.args.self.now c.stop_at.new.self c.unhold.new.self c.stop_at.ensures.owes c.unhold.ensures.owes
