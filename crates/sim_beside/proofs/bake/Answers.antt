use Rattle.std.proofs.Common.{All, sym, subst}
use Rattle.sim_host.specs.Hosting.{IsHosted}
use Rattle.sim_beside.proofs.bake.Goals as goal

pub run_beside-told-requires : goal.run_beside-told-requires
run_beside-told-requires g c = subst (All (IsHosted c.in-Ok.scenario)) (sym c.as_mut_slice.ensures.value) c.in_ok-runs.ensures.hosted
