use Rattle.std.proofs.Common.{◌≡◌, ◌+◌, All, rules, sym, ap, ◌∙◌, subst}
use Rattle.sim_host.specs.Hosting.{IsHosted}
use Rattle.sim_host.proofs.Stepping.{all_push}
use Rattle.sim_host.proofs.tests.open_each.Goals as goal

pub loop-limit-preserved : goal.loop-limit-preserved
loop-limit-preserved c =
    let s = c.args.scenario.now in
    let h = c.loop-limit.invariant in
    record {
      hosted = subst (All (IsHosted s)) (sym c.push_reserved.ensures.items) (all_push (IsHosted s) c.loop-limit.runs.items c.in-Ok.run' h.hosted c.in-Ok.ensures.hosted);
      many = c.push_reserved.ensures.len ∙ ap (λ n. n + 1) h.many;
      room = search rules;
    }
