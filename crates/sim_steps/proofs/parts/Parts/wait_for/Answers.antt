use Rattle.sim_machine.specs.Processes.{wait}
use Rattle.sim_steps_law.proofs.Kernels.Accounting.{owing_after}
use Rattle.sim_steps_law.proofs.Kernels.Becoming.{becomes_then}
use Rattle.sim_steps.proofs.parts.Parts.wait_for.Goals as goal

pub unhold-requires : goal.unhold-requires
unhold-requires g c =
    record {
      owed = owing_after (wait c.args.on c.args.process) c.args.self.now c.begin_to_wait-left.new.self c.begin_to_wait-left.ensures.owes c.requires.owing;
    }

pub returns-clause-becomes : goal.returns-clause-becomes
returns-clause-becomes g c =
    becomes_then (wait c.args.on c.args.process) (λ s. s) c.args.self.now c.begin_to_wait-left.new.self c.unhold.new.self
    c.begin_to_wait-left.ensures.owes c.unhold.ensures.owes
