use Rattle.std.proofs.Common.{arith}
use Rattle.sim_types.specs.declared.event.Callback.TheVariants as callback
use Rattle.sim_machine.specs.Events.{register}
use Rattle.sim_happen_model.specs.HappenOf.{as_before, one_more}
use Rattle.sim_happen_law.proofs.Changes.Held.{holders_by_held}
use Rattle.sim_happen_law.proofs.Changes.Following.{kept_then, turns_then}
use Rattle.sim_happen.proofs.happen.Happen.append_trigger.Goals as goal

pub hold-requires-clause-kept : goal.hold-requires-clause-kept
hold-requires-clause-kept c = kept_then (register c.args.event (callback.Trigger c.args.other)) _ _ c.args.other c.register.ensures.follows c.requires.other

pub hold-requires-clause-few : goal.hold-requires-clause-few
hold-requires-clause-few c =
    let same = holders_by_held c.args.self.now c.register.new.self c.args.other c.register.ensures.follows.held c.requires.other in
    omega (arith, same, c.requires.few)

pub returns-clause-registered : goal.returns-clause-registered
returns-clause-registered c =
    turns_then (register c.args.event (callback.Trigger c.args.other)) (λ d. d) as_before (one_more c.args.other) _ _ _ c.register.ensures.follows c.hold.ensures.held
