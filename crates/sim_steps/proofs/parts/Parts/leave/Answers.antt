use Rattle.sim_steps_law.proofs.Scopes.LeavingInnermost.{left_told}
use Rattle.sim_steps.proofs.parts.Parts.leave.Goals as goal

pub returns-clause-becomes : goal.returns-clause-becomes
returns-clause-becomes g c =
    left_told c.args.process c.args.self.now c.leave_scope-place.new.self c.tell.new.self c.leave_scope-place.ensures.leaves c.tell.ensures
