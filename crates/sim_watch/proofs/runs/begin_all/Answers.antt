use Rattle.std.proofs.Common.{◌<◌, ◌+◌, length, sym, ap, subst, ◌∙◌, arith}
use Rattle.sim_watch.specs.Following.{run_from}
use Rattle.sim_watch.proofs.Openings.{AreBegun, IsMeasuredAt, all_begun, begun_next, none_begun, opened_from_0, opened_to_most}
use Rattle.sim_watch.proofs.runs.begin_all.Goals as goal

pub loop-res-init : goal.loop-res-init
loop-res-init c = subst (AreBegun (run_from c.args.scenario.now c.args.walk.now) 0) (sym c.new-watched.ensures.items) (none_begun (run_from c.args.scenario.now c.args.walk.now))

pub new-requires-clause-held_low : goal.new-requires-clause-held_low
new-requires-clause-held_low c =
    let all = c.len-res-end.ensures ∙ ap (λ x. length x.resources) c.setup.ensures.setup in
    opened_from_0 c.args.scenario.now c.args.walk.now c.requires.opening c.loop-res.res (subst (λ n. c.loop-res.res < n) all c.loop-res-test.true) c.measure.result
    (subst (λ k. IsMeasuredAt k c.loop-res.res c.measure.result) c.kernel-kernel.ensures c.measure.ensures.measure)

pub new-requires-clause-held_high : goal.new-requires-clause-held_high
new-requires-clause-held_high c =
    let all = c.len-res-end.ensures ∙ ap (λ x. length x.resources) c.setup.ensures.setup in
    opened_to_most c.args.scenario.now c.args.walk.now c.requires.opening c.loop-res.res (subst (λ n. c.loop-res.res < n) all c.loop-res-test.true) c.measure.result
    (subst (λ k. IsMeasuredAt k c.loop-res.res c.measure.result) c.kernel-kernel.ensures c.measure.ensures.measure)

pub loop-res-preserved : goal.loop-res-preserved
loop-res-preserved c =
    subst (AreBegun (run_from c.args.scenario.now c.args.walk.now) (c.loop-res.res + 1)) (sym c.in_ok-push.ensures.items)
    (begun_next c.args.scenario.now c.args.walk.now c.requires.opening c.loop-res.res c.loop-res.watched.items c.loop-res.invariant c.new.result c.measure.result
    (subst (λ k. IsMeasuredAt k c.loop-res.res c.measure.result) c.kernel-kernel.ensures c.measure.ensures.measure) c.new.ensures.since c.new.ensures.watched)

pub returns : goal.returns
returns c =
    let all = c.len-res-end.ensures ∙ ap (λ x. length x.resources) c.setup.ensures.setup in
    record {
      follows =
          all_begun c.args.scenario.now c.args.walk.now c.requires.opening c.loop-res.res c.loop-res.watched.items c.loop-res.invariant
          (omega (arith, c.loop-res-test.false, c.loop-res.auto.res-end, all));
    }
