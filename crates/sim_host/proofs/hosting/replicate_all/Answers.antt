use Rattle.std.proofs.Common.{sym, ap, ◌∙◌, subst}
use Rattle.std.specs.List.{All}
use Rattle.sim_types.specs.Setups.{HavePorts}
use Rattle.sim_script_model.specs.Scenarios.{summary}
use Rattle.sim_engine.specs.Counting.{IsWithin}
use Rattle.sim_language_law.proofs.Scenarios.PostsOfScenarios.{posts_of_scenario}
use Rattle.sim_host.proofs.Openings.{made_more}
use Rattle.sim_host.proofs.Stepping.{all_push}
use Rattle.sim_host.proofs.hosting.replicate_all.Goals as goal

pub replicate-requires : goal.replicate-requires
replicate-requires c =
    let s = c.args.scenario.now in
    record { ports = subst (HavePorts s.setup) (sym c.journal.ensures.journal) (posts_of_scenario s c.journal.ensures.well_formed).ports }

pub loop-index-preserved : goal.loop-index-preserved
loop-index-preserved c =
    let s = c.args.scenario.now in
    let h = c.loop-index.invariant in
    let made = c.in_ok-summary.ensures in
    let is = made.summary ∙ (ap (λ j. summary s c.seed_of-seed.result j c.args.limit) c.journal.ensures.journal ∙ ap (λ n. summary s n s.journal c.args.limit) c.seed_of-seed.ensures) in
    record {
      summaries = c.in_ok-push.ensures.ok ∙ made_more s c.args.limit c.loop-index.index c.loop-index.summaries c.in_ok-summary.summary h.summaries is;
      counts = subst (All (IsWithin c.args.limit)) (sym c.in_ok-push.ensures.ok) (all_push (IsWithin c.args.limit) c.loop-index.summaries c.in_ok-summary.summary h.counts made.counts);
    }
