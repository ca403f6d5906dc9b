use Rattle.std.proofs.Common.{arith}
use Rattle.sim_machine.specs.Processes.{wait}
use Rattle.sim_steps_law.proofs.Kernels.Becoming.{becomes_within}
use Rattle.sim_steps.proofs.parts.Parts.wait.Goals as goal

pub returns-then-is_processed-clause-becomes : goal.returns-then-is_processed-clause-becomes
returns-then-is_processed-clause-becomes g c =
    becomes_within 0 1 (wait c.args.on c.args.process) c.args.self.now c.go_on.new.self (omega arith) c.go_on.ensures.becomes
