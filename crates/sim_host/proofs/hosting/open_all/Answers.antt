use Rattle.std.proofs.Common.{sym, ap, ◌∙◌, subst, rules, ◌+◌}
use Rattle.sim_host.specs.HostedTogether.{AreOpened}
use Rattle.sim_host.proofs.Openings.{opened_more}
use Rattle.sim_host.proofs.hosting.open_all.Goals as goal

pub loop-index-preserved : goal.loop-index-preserved
loop-index-preserved c =
    let s = c.args.scenario.now in
    let h = c.loop-index.invariant in
    let made = c.in-Ok.ensures in
    let many = h.many in
    record {
      opened =
          subst (AreOpened s c.args.limit (c.loop-index.index + 1)) (sym c.push_reserved.ensures.items)
          (opened_more s c.args.limit c.loop-index.index c.loop-index.runs.items c.in-Ok.run' h.opened made.hosted (made.seed ∙ c.seed_of.ensures) made.limit);
      many = c.push_reserved.ensures.len ∙ ap (λ n. n + 1) many;
      room = search rules;
    }
