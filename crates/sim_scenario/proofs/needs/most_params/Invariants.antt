-- The most parameters of the kinds behind the place.
use Rattle.std.proofs.Common.{◌≡◌, drop}
use Rattle.sim_script_model.specs.Needs.{most_params}
use Rattle.sim_scenario.proofs.needs.most_params.Given as goal

abbrev pub invariant-loop-place : goal.invariant-loop-place
invariant-loop-place l = l.most ≡ most_params (drop l.place l.kinds)
