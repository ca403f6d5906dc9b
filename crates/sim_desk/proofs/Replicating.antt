-- The runs of a batch.
use Rattle.std.proofs.Common.{◌≡◌, ℕ, zero, suc, ◌+◌, ◌∷◌, map, refl, ap}
use Rattle.std.specs.List.{range_with_len}
use Rattle.sim_types.specs.Scenarios.{ScenarioOf}
use Rattle.sim_batch.specs.Batches.{answers_of}
use Rattle.sim_script_model.specs.Scenarios.{replications}
use Rattle.sim_answer.proofs.Replications.{replication}

runs_from : (s : ScenarioOf) (limit from count : ℕ) → map (replication s limit) (range_with_len from count) ≡ replications s limit from count
runs_from s limit from zero = refl
runs_from s limit from (suc count) = ap (λ more. replication s limit from ∷ more) (runs_from s limit (from + 1) count)

pub runs_are : (s : ScenarioOf) (limit count : ℕ) → answers_of (replication s limit) count ≡ replications s limit 0 count
runs_are s limit count = runs_from s limit 0 count
