use Rattle.sim_steps_law.proofs.Ends.EndedProcesses.{ended_rests}
use Rattle.sim_steps.proofs.parts.Parts.end.Goals as goal

pub returns-clause-becomes : goal.returns-clause-becomes
returns-clause-becomes g c = ended_rests c.args.process c.args.outcome c.args.self.now c.end_process.new.self c.rest.new.self c.end_process.ensures.becomes c.rest.ensures
