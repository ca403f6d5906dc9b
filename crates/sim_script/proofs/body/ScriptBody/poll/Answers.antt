use Rattle.std.proofs.Common.{ℤ, refl, arith, w64, to_z, of_z}
use Rattle.sim_types.specs.declared.event.Signal.TheVariants as signal
use Rattle.sim_script.specs.StatementGroups.{asked_where}
use Rattle.sim_script.proofs.Polling.{ready_by_code, asks_by_code, turn_of_code, done_can_be_told, one_poll_more}
use Rattle.sim_script.proofs.body.ScriptBody.poll.Goals as goal

pub turn-asks-requires-clause-take : goal.turn-asks-requires-clause-take
turn-asks-requires-clause-take c =
    ready_by_code c.args.code.now c.args.self.now c.args.signal c.code-statements.result.now c.code-statements.ensures.code c.requires.can

pub turn-asks-requires-clause-ask : goal.turn-asks-requires-clause-ask
turn-asks-requires-clause-ask c =
    asks_by_code c.args.code.now c.args.self.now c.args.signal c.code-statements.result.now c.code-statements.ensures.code c.requires.can

pub loop-asks-init : goal.loop-asks-init
loop-asks-init c =
    let x = c.args.code.now in
    let b = c.args.self.now in
    let time : ℤ = to_z w64 (of_z w64 c.args.now) in
    let d = c.turn-asks.new.self in
    let asked = asked_where c.turn-asks.result c.turn-asks.new.asked in
    let by_code = turn_of_code x b c.args.signal c.code-statements.result.now c.code-statements.ensures.code in
    let turned = by_code time asked d c.turn-asks.ensures in
    record {
      most = c.requires.some;
      polls = record { between = b; before = refl; after = turned };
      told = λ not. done_can_be_told x b time c.args.signal d c.requires.can (rw not at turned);
    }

pub turn-asks-requires-in-loop-asks-clause-ask : goal.turn-asks-requires-in-loop-asks-clause-ask
turn-asks-requires-in-loop-asks-clause-ask c =
    asks_by_code c.args.code.now c.loop-asks.self signal.Done c.code-statements.result.now c.code-statements.ensures.code
    (c.loop-asks.invariant.told c.loop-asks-test.true)

pub loop-asks-preserved : goal.loop-asks-preserved
loop-asks-preserved c =
    let x = c.args.code.now in
    let b = c.loop-asks.self in
    let time : ℤ = to_z w64 (of_z w64 c.args.now) in
    let d = c.turn-asks-in-loop-asks.new.self in
    let h = c.loop-asks.invariant in
    let asked = asked_where c.turn-asks-in-loop-asks.result c.turn-asks-in-loop-asks.new.asked in
    let by_code = turn_of_code x b signal.Done c.code-statements.result.now c.code-statements.ensures.code in
    let turned = by_code time asked d c.turn-asks-in-loop-asks.ensures in
    record {
      most = omega (arith, c.if-made-most.true);
      polls = one_poll_more x time c.args.signal c.loop-asks.made c.args.self.now b asked d (rw c.loop-asks-test.true at h.polls) turned;
      told = λ not. done_can_be_told x b time signal.Done d (h.told c.loop-asks-test.true) (rw not at turned);
    }
