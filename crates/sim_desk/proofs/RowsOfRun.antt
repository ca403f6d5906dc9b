-- What is told of the resources over a run, and its lines.
use Rattle.std.proofs.Common.{◌≡◌, ℕ, ◌<◌, ◌≤◌, ◌^◌, ℤ, List, ◌++◌, length, map, refl, subst, arith}
use Rattle.std.specs.Prelude.{IsTrue}
use Rattle.std.specs.List.{range_with_len}
use Rattle.std.proofs.lemmas.List.FromFn.{length-map-range_with_len}
use Rattle.sim_types.specs.Scenarios.{ScenarioOf}
use Rattle.sim_types.specs.declared.line.End.{End}
use Rattle.sim_types.specs.declared.line.Summary.{Summary}
use Rattle.sim_types.specs.declared.line.WatchRow.{WatchRow}
use Rattle.sim_types.specs.declared.setup.Arrival.{Arrival}
use Rattle.sim_language.specs.WellFormed.{is_well_formed}
use Rattle.sim_language_law.proofs.Scenarios.SetupParts.{fitting_parts}
use Rattle.sim_language_law.proofs.Scenarios.WellFormedParts.{fits_well}
use Rattle.sim_script_model.specs.Scenarios.{summary, watch_rows}
use Rattle.sim_trace.specs.WatchTexts.{rows_text, watch_end_text, watch_answer}

few_of : (row : ℕ → WatchRow) (n : ℕ) → n ≤ 1024 → length (map row (range_with_len 0 n)) < 2 ^ 32
few_of row n few = omega (arith, few, length-map-range_with_len row 0 n)

-- there are no more of them than a scenario has resources
pub few_rows : (s : ScenarioOf) (seed : ℕ) (journal : List Arrival) (limit : ℕ) (rows told : List WatchRow) → IsTrue (is_well_formed s)
    → rows ≡ told → told ≡ watch_rows s seed journal limit → length rows < 2 ^ 32
few_rows s seed journal limit rows told well_formed same are =
    rw (same, are) (few_of _ _ (fitting_parts s (fits_well s well_formed).setup).resources)

-- the answer is the lines of all resources, and the one on the end of the run
pub answer_is : (s : ScenarioOf) (seed : ℕ) (journal : List Arrival) (limit : ℕ) (rows told : List WatchRow) (how : End) (time : ℤ) (processed : ℕ)
    → seed ≡ s.seed → journal ≡ s.journal → rows ≡ told → told ≡ watch_rows s seed journal limit
    → how ≡ (summary s seed journal limit).end → time ≡ (summary s seed journal limit).time → processed ≡ (summary s seed journal limit).processed
    → watch_answer (watch_rows s s.seed s.journal limit) (summary s s.seed s.journal limit) ≡ rows_text 0 rows ++ watch_end_text how time processed
answer_is s seed journal limit rows told how time processed same_seed same_journal same are ended at after =
    let text = rows_text 0 rows ++ watch_end_text how time processed in
    subst (λ n. watch_answer (watch_rows s n s.journal limit) (summary s n s.journal limit) ≡ text) same_seed
    (subst (λ j. watch_answer (watch_rows s seed j limit) (summary s seed j limit) ≡ text) same_journal
    (by (watch_rows s seed journal limit) (summary s seed journal limit) are ended at after))
  where
    by : (all : List WatchRow) (x : Summary) → told ≡ all → how ≡ x.end → time ≡ x.time → processed ≡ x.processed
        → watch_answer all x ≡ rows_text 0 rows ++ watch_end_text how time processed
    by all x are ended at after = rw (same, are, ended, at, after) refl
