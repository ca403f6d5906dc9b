use Rattle.std.proofs.Common.{ap}
use Rattle.sim_types.specs.declared.event.ProcId.{ProcId}
use Rattle.sim_steps_law.proofs.Starts.SpawnedProcesses.{spawned_becomes}
use Rattle.sim_steps.proofs.parts.Parts.spawn.Goals as goal

pub returns-clause-becomes : goal.returns-clause-becomes
returns-clause-becomes g c =
    let number = ap (λ (p : ProcId). p.0) c.begin-made.ensures.process in
    let begins = rw c.as_slice.ensures.values at c.begin-made.ensures.becomes in
    spawned_becomes g.B.LawfulBody.body c.args.self.now c.begin-made.new.self c.tell.new.self c.args.process c.args.kind c.args.args _ begins number c.tell.ensures
