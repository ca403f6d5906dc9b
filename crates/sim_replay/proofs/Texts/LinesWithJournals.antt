-- The lines of a text with a journal behind its other lines.
--     lines_are      those in front of its sections, and the journal's
--     all_fit        its entries fit behind lines that declare the ports
use Rattle.std.proofs.Common.{◌≡◌, refl, sym, ap, subst, ◌∙◌, ℕ, zero, suc, ◌<◌, ◌≤◌, ◌^◌, true, ◌&&◌, nat_le, nat_lt, List, [], ◌∷◌, ◌++◌, length, map, codes, Some, None, slice_get, arith}
use Rattle.std.specs.Prelude.{flat_map}
use Rattle.std.specs.List.{All, list_all}
use Rattle.std.proofs.lemmas.Bool.{and_parts, and_from, leb-true, ltb-true}
use Rattle.std.proofs.lemmas.List.Concat.{flat_map-cons}
use Rattle.std.proofs.lemmas.List.Folds.{list_all-append, flat_map-map}
use Rattle.std.proofs.lemmas.List.Elements.{All-nil, All-cons, All-head, All-tail}
use Rattle.std.proofs.lemmas.Grind.{flat_map-append}
use Rattle.sim_types.specs.Scenarios.{ScenarioOf}
use Rattle.sim_types.specs.Setups.{is_within}
use Rattle.sim_types.specs.declared.setup.Arrival.{Arrival}
use Rattle.sim_language.specs.declared.form.Meaning.{Meaning}
use Rattle.sim_language.specs.declared.form.Version.{Version}
use Rattle.sim_language.specs.Lines.{Word, lines, cut, words}
use Rattle.sim_language.specs.Numbers.{least, greatest}
use Rattle.sim_language.specs.Named.{Named}
use Rattle.sim_language.specs.Sayings.{Setting, setting_behind, lines_from}
use Rattle.sim_language.specs.WellFormed.{arrival_fits}
use Rattle.sim_replay.specs.Sections.{begins_section, lines_before, with_line_feed, text_with_journal}
use Rattle.sim_trace.specs.Texts.{port_word, journal_text}
use Rattle.sim_replay.proofs.Texts.EndedLines.{is_whole, lines_ended, lines_whole, all_up_to}
use Rattle.sim_replay.proofs.Entries.WordsOfLines.{whole_joined}
use Rattle.sim_replay.proofs.Entries.NamedPorts.{PortsNamed}
use Rattle.sim_replay.proofs.Entries.EntryLines.{GoodEntry, words_behind, entry_written, entry_plain}
use Rattle.sim_replay.proofs.Entries.CleanEntries.{FittingEntry, Follows}

-- ---- lists

pub no_more : {X : Type 0} (xs : List X) → length xs ≤ 0 → xs ≡ []
no_more [] h = refl
no_more (x ∷ xs) h = absurd (omega (arith, h))

-- a word that is there is found
found_word : (ws : List Word) (i : ℕ) → i < length ws → slice_get ws i ≡ Some (port_word ws i)
found_word [] i h = absurd (omega (arith, h))
found_word (w ∷ ws) zero h = refl
found_word (w ∷ ws) (suc i) h = found_word ws i (omega (arith, h))

pub long : (s : Setting) (ls : List Word) → length (lines_from s ls) ≡ length ls
long s [] = refl
long s (l ∷ ls) = ap suc (long (setting_behind (words (cut l)) s) ls)

-- ---- entries

module _ (s : ScenarioOf) (version : Version) (ports : List Word) (named : length s.setup.ports ≡ length ports)
    (ds : List (Named Meaning)) (known : PortsNamed version ds ports) where
  one_fits : (a : Arrival) → arrival_fits s a ≡ true → is_within least greatest a.value ≡ true → FittingEntry version ds ports a
  one_fits a fits value =
      let most = and_parts (nat_le a.after (2 ^ 62) && nat_lt a.poster 16 && nat_lt a.serial 65536) (nat_lt a.port (length s.setup.ports)) fits in
      let more = and_parts (nat_le a.after (2 ^ 62) && nat_lt a.poster 16) (nat_lt a.serial 65536) most.0 in
      let some = and_parts (nat_le a.after (2 ^ 62)) (nat_lt a.poster 16) more.0 in
      let port : a.port < length ports = subst (λ n. a.port < n) named (ltb-true a.port (length s.setup.ports) most.1) in
      let there = found_word ports a.port port in
      record {
        good = record {
          after = leb-true a.after (2 ^ 62) some.0;
          poster = ltb-true a.poster 16 some.1;
          serial = ltb-true a.serial 65536 more.1;
          name = known.good a.port (port_word ports a.port) there;
          value = value;
        };
        known = known.named a.port (port_word ports a.port) there;
      }

  pub all_fit : (entries : List Arrival) → list_all (arrival_fits s) entries ≡ true → list_all (λ a. is_within least greatest a.value) entries ≡ true
      → All (FittingEntry version ds ports) entries
  all_fit [] fits values = All-nil (FittingEntry version ds ports)
  all_fit (a ∷ entries) fits values =
      let f = and_parts (arrival_fits s a) (list_all (arrival_fits s) entries) fits in
      let v = and_parts (is_within least greatest a.value) (list_all (λ b. is_within least greatest b.value) entries) values in
      All-cons (FittingEntry version ds ports) a entries (one_fits a f.0 v.0) (all_fit entries f.1 v.1)

pub follows_none : (entries : List Arrival) → Follows None entries
follows_none [] = tt
follows_none (a ∷ entries) = tt

pub all_good : {version : Version} {ports : List Word}
    {ds : List (Named Meaning)} (entries : List Arrival)
    → All (FittingEntry version ds ports) entries → All (GoodEntry version ports) entries
all_good {version} {ports} {ds} [] fits = All-nil (GoodEntry version ports)
all_good {version} {ports} {ds} (a ∷ entries) fits =
    All-cons (GoodEntry version ports) a entries (All-head (FittingEntry version ds ports) a entries fits).good
    (all_good entries (All-tail (FittingEntry version ds ports) a entries fits))

-- ---- the lines of the text with this journal

abbrev pub written_lines : List Word → List Arrival → List Word
written_lines ports entries = codes "journal" ∷ map (entry_written ports) entries

text_is : (ports : List Word) (entries : List Arrival) (text : List ℕ)
    → text_with_journal ports entries text ≡ flat_map with_line_feed (lines_before text ++ written_lines ports entries)
text_is ports entries text =
    sym (flat_map-append with_line_feed (lines_before text) (written_lines ports entries)
    ∙ ap (λ more. flat_map with_line_feed (lines_before text) ++ more) journal)
  where
    journal : flat_map with_line_feed (written_lines ports entries) ≡ journal_text ports entries
    journal = flat_map-cons with_line_feed (codes "journal") (map (entry_written ports) entries)
        ∙ ap (λ more. with_line_feed (codes "journal") ++ more) (flat_map-map with_line_feed (entry_written ports) entries)

entries_whole : (version : Version) (ports : List Word) (entries : List Arrival) → All (GoodEntry version ports) entries
    → list_all is_whole (map (entry_written ports) entries) ≡ true
entries_whole version ports [] good = refl
entries_whole version ports (a ∷ entries) good =
    let here = All-head (GoodEntry version ports) a entries good in
    let rest = All-tail (GoodEntry version ports) a entries good in
    and_from _ _ (whole_joined (codes "after") (words_behind ports a) (entry_plain version ports a here)) (entries_whole version ports entries rest)

pub lines_are : (version : Version) (ports : List Word) (entries : List Arrival) (text : List ℕ)
    → All (GoodEntry version ports) entries → lines (text_with_journal ports entries text) ≡ lines_before text ++ written_lines ports entries
lines_are version ports entries text good =
    let front = all_up_to begins_section is_whole (lines text) (lines_whole text) in
    ap lines (text_is ports entries text)
    ∙ lines_ended (lines_before text ++ written_lines ports entries)
    (list_all-append is_whole (lines_before text) (written_lines ports entries) ∙ and_from _ _ front (entries_whole version ports entries good))
