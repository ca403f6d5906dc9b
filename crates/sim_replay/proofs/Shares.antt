-- Batches that are split.
use Rattle.std.proofs.Common.{◌≡◌, ℕ, zero, suc, ◌+◌, ◌%◌, ◌^◌, ◌∷◌, ◌++◌, refl, sym, ap, ◌∙◌, arith}
use Rattle.sim_types.specs.Scenarios.{ScenarioOf}
use Rattle.sim_script_model.specs.Scenarios.{summary, replications}
use Rattle.sim_replay.specs.Seeds.{with_seed}
use Rattle.sim_replay.proofs.Runs.ReplayedRuns.{summary_reseeded}

-- from a number on, as from another number on with a seed that is greater by the rest
shifted : (s : ScenarioOf) (limit from at count : ℕ) → replications s limit (from + at) count ≡ replications (with_seed (s.seed + from) s) limit at count
shifted s limit from at zero = refl
shifted s limit from at (suc count) =
    let seeds : s.seed + (from + at) ≡ s.seed + from + at = omega arith in
    let next : from + at + 1 ≡ from + (at + 1) = omega arith in
    ap (λ seed. summary s (seed % 2 ^ 64) s.journal limit ∷ replications s limit (from + at + 1) count) seeds
    ∙ ap (λ rest. summary s ((s.seed + from + at) % 2 ^ 64) s.journal limit ∷ rest)
    (ap (λ n. replications s limit n count) next ∙ shifted s limit from (at + 1) count)
    ∙ ap (λ first. first ∷ replications (with_seed (s.seed + from) s) limit (at + 1) count)
    (sym (summary_reseeded s (s.seed + from) ((s.seed + from + at) % 2 ^ 64) limit))

pub later_seeds : (s : ScenarioOf) (limit from count : ℕ) → replications s limit from count ≡ replications (with_seed (s.seed + from) s) limit 0 count
later_seeds s limit from count =
    let same : from ≡ from + 0 = omega arith in
    ap (λ n. replications s limit n count) same ∙ shifted s limit from 0 count

joined : (s : ScenarioOf) (limit at first further : ℕ)
    → replications s limit at (first + further) ≡ replications s limit at first ++ replications s limit (at + first) further
joined s limit at zero further =
    let none : zero + further ≡ further = omega arith in
    let same : at ≡ at + zero = omega arith in
    ap (λ n. replications s limit at n) none ∙ ap (λ n. replications s limit n further) same
joined s limit at (suc first) further =
    let more : suc first + further ≡ suc (first + further) = omega arith in
    let next : at + 1 + first ≡ at + suc first = omega arith in
    ap (λ n. replications s limit at n) more
    ∙ ap (λ rest. summary s ((s.seed + at) % 2 ^ 64) s.journal limit ∷ rest)
    (joined s limit (at + 1) first further ∙ ap (λ n. replications s limit (at + 1) first ++ replications s limit n further) next)

pub two_parts : (s : ScenarioOf) (limit first further : ℕ)
    → replications s limit 0 (first + further) ≡ replications s limit 0 first ++ replications s limit first further
two_parts s limit first further =
    let same : 0 + first ≡ first = omega arith in
    joined s limit 0 first further ∙ ap (λ n. replications s limit 0 first ++ replications s limit n further) same
