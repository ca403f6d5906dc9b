-- The journal of a live run can be a journal of its scenario, and with it the text says the run again.
--     each_posted      each entry is a post of its poster, with its serial
--     can_be           the journal can be one of the scenario
--     says_again       the lines in front of the posters, and this journal
use Rattle.std.proofs.Common.{◌≡◌, ◌<◌, ◌≤◌, ◌^◌, ℕ, true, List, [], ◌∷◌, length, map, Some, Ok, refl, sym, ap, subst, arith}
use Rattle.std.specs.Prelude.{◌&&◌, nat_le, nat_lt, pos, slice_get, All, IsTrue}
use Rattle.std.specs.List.{list_all}
use Rattle.std.proofs.lemmas.Bool.{and_from}
use Rattle.std.proofs.lemmas.Bool.Decides.{nat_tests}
use Rattle.std.proofs.lemmas.List.{get_or-map, length-map}
use Rattle.std.proofs.lemmas.List.Elements.{All-from_get_or, All-head, All-tail}
use Rattle.std.proofs.lemmas.Option.{slice_get_within}
use Rattle.sim_types.specs.Scenarios.{ScenarioOf}
use Rattle.sim_types.specs.declared.setup.Arrival.{Arrival}
use Rattle.sim_language.specs.Reads.{reads}
use Rattle.sim_language.specs.WellFormed.{arrival_fits, is_well_formed}
use Rattle.sim_replay.specs.Sections.{CanBeJournal, IsWithinLimits, text_with_journal}
use Rattle.sim_replay.proofs.Texts.TextsWithJournals.{reads_with_journal}
use Rattle.sim_replay.proofs.Runs.ReplayedRuns.{same_summary, same_trace}
use Rattle.sim_script_law.specs.ScenarioRuns.{run_of}
use Rattle.sim_trace.specs.Texts.{trace_text}
use Rattle.sim_live.specs.Journals.{KeepsSections, post_of, section}
use Rattle.sim_live.specs.LiveRuns.{LiveOf, IsLive}
use Rattle.sim_live.specs.LiveTexts.{SaysAgain}
use Rattle.sim_live.proofs.Finishing.{left_posted}
use Rattle.sim_live.proofs.Journals.{later_all}
use Rattle.sim_live.proofs.ProcessedByUnits.{processed_by_units}
use Rattle.sim_live.proofs.Sections.{few_sections, poster_of_section, port_to_post, section_length}

-- an entry of what its poster has to post, with its serial
abbrev pub IsPosted : ScenarioOf → Arrival → Type 0
IsPosted s a = slice_get (section s a.poster) a.serial ≡ Some (post_of a).item

module _ (s : ScenarioOf) (journal : List Arrival) (h : KeepsSections s journal) where
  none : Arrival
  none = record { after = 0; poster = 0; serial = 0; port = 0; value = pos 0 }

  pub each_posted : All (IsPosted s) journal
  each_posted =
      All-from_get_or (IsPosted s) journal none
      (λ i below.
      let many : i < length (map post_of journal) = subst (λ n. i < n) (sym (length-map journal post_of)) below in
      subst (λ t. slice_get (section s t.poster) t.serial ≡ Some t.item) (get_or-map post_of journal i none (post_of none) below)
      (left_posted s [] (map post_of journal) h.posts i (post_of none) many))

-- ---- it can be one of the scenario

module _ (s : ScenarioOf) (well : IsTrue (is_well_formed s)) where
  fits : (a : Arrival) → IsPosted s a → a.after ≤ 2 ^ 62 → arrival_fits s a ≡ true
  fits a at early =
      let few : a.poster < 16 = omega (arith, poster_of_section s a.poster a.serial (post_of a).item at, few_sections s well) in
      let short : a.serial < 65536 = omega (arith, slice_get_within (section s a.poster) a.serial (post_of a).item at, section_length s a.poster well) in
      let port : a.port < length s.setup.ports = port_to_post s a.poster a.serial (post_of a).item well at in
      let on_time : nat_le a.after (2 ^ 62) ≡ true = grind (arith, nat_tests, early) in
      let there : nat_lt a.poster 16 ≡ true = grind (arith, nat_tests, few) in
      let numbered : nat_lt a.serial 65536 ≡ true = grind (arith, nat_tests, short) in
      let declared : nat_lt a.port (length s.setup.ports) ≡ true = grind (arith, nat_tests, port) in
      and_from (nat_le a.after (2 ^ 62) && nat_lt a.poster 16 && nat_lt a.serial 65536) (nat_lt a.port (length s.setup.ports))
      (and_from (nat_le a.after (2 ^ 62) && nat_lt a.poster 16) (nat_lt a.serial 65536)
      (and_from (nat_le a.after (2 ^ 62)) (nat_lt a.poster 16) on_time there) numbered)
      declared

  all_fit : (journal : List Arrival) → All (IsPosted s) journal → All (λ a. a.after ≤ 2 ^ 62) journal → list_all (arrival_fits s) journal ≡ true
  all_fit [] posted early = refl
  all_fit (a ∷ journal) posted early =
      and_from (arrival_fits s a) (list_all (arrival_fits s) journal)
      (fits a (All-head (IsPosted s) a journal posted) (All-head (λ x. x.after ≤ 2 ^ 62) a journal early))
      (all_fit journal (All-tail (IsPosted s) a journal posted) (All-tail (λ x. x.after ≤ 2 ^ 62) a journal early))

  early_enough : (x : LiveOf) → IsLive s x → x.session.limit ≤ 2 ^ 62 → All (λ a. a.after ≤ 2 ^ 62) x.journal
  early_enough x live most =
      let by_units : x.session.parts.processed ≤ x.session.units =
      omega (arith, live.stands.at.stands.processed, processed_by_units (run_of s s.seed x.journal) x.session.units) in
      later_all x.journal x.session.parts.processed (2 ^ 62) (omega (arith, by_units, live.within, most)) live.by_now

  pub can_be : (x : LiveOf) → IsLive s x → x.session.limit ≤ 2 ^ 62 → KeepsSections s x.journal → CanBeJournal s x.journal
  can_be x live most sections =
      record {
        fit = all_fit x.journal (each_posted s x.journal sections) (early_enough x live most);
        values = live.values;
        falls = live.falls;
      }

-- ---- and then it says the run again

pub says_again : (text : List ℕ) (s : ScenarioOf) (limit : ℕ) (journal : List Arrival) → reads text ≡ Ok s → CanBeJournal s journal
    → IsWithinLimits s.port_names journal text → SaysAgain s limit journal (text_with_journal s.port_names journal text)
says_again text s limit journal read can within =
    record {
      read = reads_with_journal text s read journal can within;
      trace = ap (trace_text s.port_names) (same_trace s s.seed journal limit);
      end = ap (λ r. r.end) (same_summary s s.seed journal limit);
    }
