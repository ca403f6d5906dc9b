-- Replications that are opened one after another, and those that are made so.
use Rattle.std.proofs.Common.{◌≡◌, ℕ, zero, suc, ◌+◌, ◌%◌, ◌^◌, List, [], ◌∷◌, ◌++◌, refl, sym, ap, ◌∙◌, arith, add-one, add-zero}
use Rattle.std.proofs.lemmas.List.{map-append}
use Rattle.sim_types.specs.Scenarios.{ScenarioOf}
use Rattle.sim_types.specs.declared.line.Summary.{Summary}
use Rattle.sim_script_model.specs.Scenarios.{replications}
use Rattle.sim_answer.proofs.Replications.{replication}
use Rattle.sim_host.specs.Hosting.{HostedOf, IsHosted, summary_in}
use Rattle.sim_host.specs.HostedTogether.{AreOpened, summaries_in}
use Rattle.sim_host.proofs.Stepping.{all_push}

more_from : (s : ScenarioOf) (limit from count : ℕ)
    → replications s limit from (suc count) ≡ replications s limit from count ++ replication s limit (from + count) ∷ []
more_from s limit from zero = ap (λ n. replication s limit n ∷ []) (sym (add-zero from))
more_from s limit from (suc count) =
    let next : from + 1 + count ≡ from + suc count = omega arith in
    ap (λ more. replication s limit from ∷ more)
    (more_from s limit (from + 1) count ∙ ap (λ n. replications s limit (from + 1) count ++ replication s limit n ∷ []) next)

pub one_more : (s : ScenarioOf) (limit count : ℕ) → replications s limit 0 (count + 1) ≡ replications s limit 0 count ++ replication s limit count ∷ []
one_more s limit count =
    let next : 0 + count ≡ count = omega arith in
    ap (replications s limit 0) (add-one count)
    ∙ (more_from s limit 0 count ∙ ap (λ n. replications s limit 0 count ++ replication s limit n ∷ []) next)

pub made_more : (s : ScenarioOf) (limit count : ℕ) (made : List Summary) (x : Summary) → made ≡ replications s limit 0 count → x ≡ replication s limit count
    → made ++ x ∷ [] ≡ replications s limit 0 (count + 1)
made_more s limit count made x so_far is =
    ap (λ xs. xs ++ x ∷ []) so_far ∙ (ap (λ y. replications s limit 0 count ++ y ∷ []) is ∙ sym (one_more s limit count))

pub opened_none : (s : ScenarioOf) (limit : ℕ) (runs : List HostedOf) → runs ≡ [] → AreOpened s limit 0 runs
opened_none s limit runs none =
    rw none (record { hosted = λ k d below. absurd (omega (arith, below)); limits = λ k d below. absurd (omega (arith, below)); summaries = refl })

pub opened_more : (s : ScenarioOf) (limit count : ℕ) (runs : List HostedOf) (x : HostedOf) → AreOpened s limit count runs → IsHosted s x
    → x.session.parts.seed ≡ (s.seed + count) % 2 ^ 64 → x.session.limit ≡ limit → AreOpened s limit (count + 1) (runs ++ x ∷ [])
opened_more s limit count runs x so_far hosted seed same =
    let comes_to : summary_in s x ≡ replication s limit count = rw (seed, same) refl in
    record {
      hosted = all_push (IsHosted s) runs x so_far.hosted hosted;
      limits = all_push (λ y. y.session.limit ≡ limit) runs x so_far.limits same;
      summaries = map-append (summary_in s) runs (x ∷ []) ∙ made_more s limit count (summaries_in s runs) (summary_in s x) so_far.summaries comes_to;
    }
