use Rattle.std.proofs.Common.{rules, w64, FitsSigned}
use Rattle.std.proofs.lemmas.Int.{to_z-of_z}
use Rattle.sim_types.specs.declared.event.Signal.TheVariants as signal
use Rattle.sim_machine.specs.Effect.{tell_made}
use Rattle.sim_steps_law.proofs.Kernels.Becoming.{becomes_told}
use Rattle.sim_steps.proofs.parts.Parts.put.Goals as goal

pub returns-in-Some-clause-becomes : goal.returns-in-Some-clause-becomes
returns-in-Some-clause-becomes g c =
    let amount : FitsSigned w64 c.args.amount = search rules in
    let priority : FitsSigned w64 c.args.priority = search rules in
    let made = rw (to_z-of_z w64 c.args.amount amount, to_z-of_z w64 c.args.priority priority) at c.in-Some.ensures.made in
    made.each 0 tell_made c.tell.new.self (rw c.tell.ensures (becomes_told (signal.Made c.in-Some.put) c.make_put.new.self))

pub returns-in-None-clause-becomes : goal.returns-in-None-clause-becomes
returns-in-None-clause-becomes g c =
    let amount : FitsSigned w64 c.args.amount = search rules in
    let priority : FitsSigned w64 c.args.priority = search rules in
    let refused = rw (to_z-of_z w64 c.args.amount amount, to_z-of_z w64 c.args.priority priority) at c.in-None.ensures.refused in
    refused.each tell_made
