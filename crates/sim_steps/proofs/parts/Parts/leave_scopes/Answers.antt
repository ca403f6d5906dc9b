use Rattle.std.proofs.Common.{◌<◌, length, refl, sym, arith}
use Rattle.sim_procs.specs.RecordOf.{record_of}
use Rattle.sim_shared_law.proofs.Shown.ShownMeasures.{nothing_changes}
use Rattle.sim_steps_law.proofs.Kernels.TouchedPlaces.{pushed_length, touched_before, touched_more}
use Rattle.sim_steps_law.proofs.Scopes.LeavingEach.{few_open, gone_few, leaves_start, some_fewer, some_last, some_next}
use Rattle.sim_steps.proofs.parts.Parts.leave_scopes.Goals as goal

pub loop-at-init : goal.loop-at-init
loop-at-init g c =
    record {
      some = leaves_start c.args.process c.args.self.now c.requires.scopes c.requires.can;
      touched = nothing_changes _ c.args.self.now.shared c.args.self.now.shared refl;
      few = rw c.clear.ensures (omega (arith, few_open (record_of c.args.process c.args.self.now.live) c.requires.scopes));
    }

pub leave_scope-requires-clause-spare_events : goal.leave_scope-requires-clause-spare_events
leave_scope-requires-clause-spare_events g c =
    let some = c.loop-at.invariant.some in
    omega (arith, some.events, gone_few c.args.process some c.requires.scopes, c.requires.spare_events)

pub leave_scope-requires-clause-spare_callbacks : goal.leave_scope-requires-clause-spare_callbacks
leave_scope-requires-clause-spare_callbacks g c =
    let some = c.loop-at.invariant.some in
    omega (arith, some.callbacks, gone_few c.args.process some c.requires.scopes, c.requires.spare_callbacks)

pub leave_scope-requires-clause-number : goal.leave_scope-requires-clause-number
leave_scope-requires-clause-number g c =
    let some = c.loop-at.invariant.some in
    omega (arith, some.made, gone_few c.args.process some c.requires.scopes, c.requires.number)

pub loop-at-smaller : goal.loop-at-smaller
loop-at-smaller g c =
    some_fewer c.args.process c.loop-at.invariant.some c.leave_scope.new.self c.in-Some.ensures.leaves (sym c.in-Some.ensures.result)

pub loop-at-preserved : goal.loop-at-preserved
loop-at-preserved g c =
    let some = c.loop-at.invariant.some in
    let left = c.leave_scope.new.self in
    let fewer = some_fewer c.args.process some left c.in-Some.ensures.leaves (sym c.in-Some.ensures.result) in
    let room : length c.loop-at.listed < 32 = omega (arith, fewer, c.loop-at.invariant.few) in
    record {
      some = some_next c.args.process some left c.in-Some.ensures.leaves (sym c.in-Some.ensures.result);
      touched = touched_more 32 c.loop-at.listed c.in-Some.at c.push.new.self c.push.ensures.new room c.args.self.now.shared c.loop-at.self.shared
          left.shared c.loop-at.invariant.touched c.in-Some.ensures.touched;
      few = omega (arith, fewer, c.loop-at.invariant.few, pushed_length 32 c.loop-at.listed c.in-Some.at c.push.new.self c.push.ensures.new room);
    }

pub returns-clause-leaves : goal.returns-clause-leaves
returns-clause-leaves g c =
    some_last c.args.process c.loop-at.invariant.some c.leave_scope.new.self c.in_default.ensures.leaves (sym c.in_default.ensures.result)

pub returns-clause-touched : goal.returns-clause-touched
returns-clause-touched g c =
    touched_before c.loop-at.listed c.args.self.now.shared c.loop-at.self.shared c.leave_scope.new.self.shared c.loop-at.invariant.touched
    c.in_default.ensures.same_resources
