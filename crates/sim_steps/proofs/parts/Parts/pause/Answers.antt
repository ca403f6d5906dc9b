use Rattle.std.proofs.Common.{rules, w64, arith, ◌^◌, ◌+◌, FitsSigned}
use Rattle.std.proofs.lemmas.Int.{to_z-of_z}
use Rattle.sim_machine.specs.Processes.{wait}
use Rattle.sim_steps_law.proofs.Kernels.Accounting.{owing_after}
use Rattle.sim_steps_law.proofs.Kernels.Becoming.{becomes_within}
use Rattle.sim_steps_law.proofs.Kernels.Keeping.{held_by_few}
use Rattle.sim_steps.proofs.parts.Parts.pause.Goals as goal

pub wait_for-requires-clause-few : goal.wait_for-requires-clause-few
wait_for-requires-clause-few g c = held_by_few (2 ^ 41 + 0) c.make_timeout.new.self.shared.happen (omega arith) (c.in-Some.ensures.made.itself.few.few (2 ^ 41) c.requires.few)

pub wait_for-requires-clause-owing : goal.wait_for-requires-clause-owing
wait_for-requires-clause-owing g c = owing_after _ c.args.self.now _ c.in-Some.ensures.made.itself c.requires.owing

pub returns-in-Some-clause-becomes : goal.returns-in-Some-clause-becomes
returns-in-Some-clause-becomes g c =
    let delay : FitsSigned w64 c.args.delay = search rules in
    let value : FitsSigned w64 c.args.value = search rules in
    let made = rw (to_z-of_z w64 c.args.delay delay, to_z-of_z w64 c.args.value value) at c.in-Some.ensures.made in
    made.each 1 (λ e s. wait e c.args.process s) c.wait_for.new.self c.wait_for.ensures.becomes

pub returns-in-None-clause-becomes : goal.returns-in-None-clause-becomes
returns-in-None-clause-becomes g c =
    let delay : FitsSigned w64 c.args.delay = search rules in
    let value : FitsSigned w64 c.args.value = search rules in
    let refused = rw (to_z-of_z w64 c.args.delay delay, to_z-of_z w64 c.args.value value) at c.in-None.ensures.refused in
    becomes_within 0 1 _ _ _ (omega arith) (refused.each (λ e s. wait e c.args.process s))
