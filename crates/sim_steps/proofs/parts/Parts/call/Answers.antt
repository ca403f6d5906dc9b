use Rattle.std.proofs.Common.{[], arith}
use Rattle.sim_steps_law.proofs.Kernels.Accounting.{owing_after}
use Rattle.sim_steps_law.proofs.Kernels.Becoming.{some_owing}
use Rattle.sim_steps_law.proofs.Kernels.KeptNames.{calling_kept}
use Rattle.sim_steps_law.proofs.Kernels.Keeping.{none_is_few}
use Rattle.sim_steps_law.proofs.Callbacks.Calls.{becomes_taken, called_moves, taken_moves, taken_names}
use Rattle.sim_steps_law.proofs.Callbacks.CalledConditions.{condition_known, condition_taken}
use Rattle.sim_steps_law.proofs.Polls.Naming.{called_names}
use Rattle.sim_steps_law.proofs.Resources.AskedResources.{taken_ready, taken_tries, taken_waiting}
use Rattle.sim_steps.proofs.parts.Parts.call.Goals as goal

pub settle-requires-clause-kept : goal.settle-requires-clause-kept
settle-requires-clause-kept g c =
    rw c.in-None.ensures.same (calling_kept g.B.LawfulBody.body c.args.self.now c.requires.stands c.requires.needed c.args.event c.requires.calling)

pub answer-requires-clause-kept : goal.answer-requires-clause-kept
answer-requires-clause-kept g c =
    rw c.in-Some.ensures.taken.happen (calling_kept g.B.LawfulBody.body c.args.self.now c.requires.stands c.requires.needed c.args.event c.requires.calling)

pub answer-requires-clause-names : goal.answer-requires-clause-names
answer-requires-clause-names g c =
    taken_names c.args.self.now c.take_callback.new.self c.args.event c.in-Some.callback c.in-Some.ensures.taken
    (called_names g.B.LawfulBody.body c.args.self.now c.requires.stands c.requires.needed c.args.event c.in-Some.callback _ c.in-Some.ensures.taken.before)

pub answer-requires-clause-conditions : goal.answer-requires-clause-conditions
answer-requires-clause-conditions g c =
    condition_taken c.args.self.now c.take_callback.new.self c.args.event c.in-Some.callback c.in-Some.ensures.taken
    (condition_known g.B.LawfulBody.body c.args.self.now c.requires.stands c.requires.needed c.args.event c.in-Some.callback _ c.in-Some.ensures.taken.before)

pub answer-requires-clause-tries : goal.answer-requires-clause-tries
answer-requires-clause-tries g c =
    taken_tries g.B.LawfulBody.body c.args.self.now c.take_callback.new.self c.args.event c.in-Some.callback c.in-Some.ensures.taken c.requires.stands _ c.in-Some.ensures.taken.before

pub answer-requires-clause-waiting : goal.answer-requires-clause-waiting
answer-requires-clause-waiting g c =
    taken_waiting g.B.LawfulBody.body c.args.self.now c.take_callback.new.self c.args.event c.in-Some.callback c.in-Some.ensures.taken c.requires.stands c.requires.needed

pub answer-requires-clause-ready : goal.answer-requires-clause-ready
answer-requires-clause-ready g c =
    taken_ready g.B.LawfulBody.body c.args.self.now c.take_callback.new.self c.args.event c.in-Some.callback c.in-Some.ensures.taken c.requires.stands c.requires.needed
    c.requires.room c.in-Some.ensures.spare (omega (arith, c.requires.events))

pub settle-requires-clause-owing : goal.settle-requires-clause-owing
settle-requires-clause-owing g c = rw c.in-None.ensures.same (some_owing g.B.LawfulBody.body c.args.self.now c.requires.stands)

pub answer-requires-clause-owing : goal.answer-requires-clause-owing
answer-requires-clause-owing g c =
    owing_after _ c.args.self.now c.take_callback.new.self (becomes_taken c.args.self.now c.take_callback.new.self c.args.event c.in-Some.callback c.in-Some.ensures.taken)
    (some_owing g.B.LawfulBody.body c.args.self.now c.requires.stands)

pub returns-in-None-clause-moves : goal.returns-in-None-clause-moves
returns-in-None-clause-moves g c =
    let becomes = rw c.in-None.ensures.same at c.settle.ensures.becomes in
    called_moves g.B.LawfulBody.body 0 c.args.self.now c.settle.new.self c.args.event [] c.in-None.ensures.done none_is_few becomes

pub returns-in-Some-clause-moves : goal.returns-in-Some-clause-moves
returns-in-Some-clause-moves g c =
    taken_moves g.B.LawfulBody.body c.args.self.now c.take_callback.new.self c.answer.new.self c.args.event c.in-Some.callback c.in-Some.ensures.taken c.answer.ensures.owes
