use Rattle.std.proofs.Common.{subst}
use Rattle.std.specs.Prelude.{IfSome}
use Rattle.sim_host.specs.HostedTogether.{AreTold}
use Rattle.sim_host.proofs.Stepping.{all_within}
use Rattle.sim_host.proofs.hosting.host.Goals as goal

pub returns-in-Some-clause-counts : goal.returns-in-Some-clause-counts
returns-in-Some-clause-counts g c =
    let s = c.args.scenario.now in
    let runs = c.in_ok-runs.runs.items in
    let opened = c.in_ok-runs.ensures in
    let told = subst (λ xs. IfSome c.in_ok-summaries.field-0 (AreTold s xs)) c.as_mut_slice.ensures.value c.in_ok-summaries.ensures in
    let here = subst (λ o. IfSome o (AreTold s runs)) c.in-Some.is told in
    all_within c.args.limit runs c.in-Some.summaries here.counts opened.limits
