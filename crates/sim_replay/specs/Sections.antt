-- A text in front of its sections, and with a journal behind its other lines.
--     before_sections text                    the lines in front of the first `journal` or `poster` line
--     text_with_journal ports entries text    these lines, and this journal as it is written
use Rattle.std.specs.Prelude.{ℕ, ◌+◌, ◌≤◌, Bool, ◌||◌, List, [], ◌∷◌, ◌++◌, IsTrue, length, flat_map, codes}
use Rattle.std.specs.List.{list_all}
use Rattle.sim_types.specs.Limits.{most_bytes}
use Rattle.sim_types.specs.Scenarios.{ScenarioOf}
use Rattle.sim_types.specs.Setups.{is_within}
use Rattle.sim_types.specs.declared.setup.Arrival.{Arrival}
use Rattle.sim_language.specs.Lines.{Word, lines, cut, words, up_to}
use Rattle.sim_language.specs.Numbers.{least, greatest}
use Rattle.sim_language.specs.Sayings.{begins_with}
use Rattle.sim_language.specs.WellFormed.{arrival_fits, never_falls}
use Rattle.sim_trace.specs.Texts.{journal_text}

-- ---- in front of the sections

abbrev pub begins_section : Word → Bool
begins_section line = begins_with (codes "journal") (words (cut line)) || begins_with (codes "poster") (words (cut line))

abbrev pub lines_before : List ℕ → List Word
lines_before text = up_to begins_section (lines text)

abbrev pub with_line_feed : Word → List ℕ
with_line_feed line = line ++ 10 ∷ []

-- each line has its line feed, also the last line of a text that ends without one
abbrev pub before_sections : List ℕ → List ℕ
before_sections text = flat_map with_line_feed (lines_before text)

-- ---- a text with this journal

abbrev pub text_with_journal : List Word → List Arrival → List ℕ → List ℕ
text_with_journal ports entries text = before_sections text ++ journal_text ports entries

-- the scenario with this journal, and without posters
abbrev pub with_journal : List Arrival → ScenarioOf → ScenarioOf
with_journal entries s = record s { journal = entries; posters = [] }

-- a journal that the scenario can have: each entry in its ranges, and `after` never falling
pub record CanBeJournal (s : ScenarioOf) (entries : List Arrival) : Type 0 where
  pub fit : IsTrue (list_all (arrival_fits s) entries)
  pub values : IsTrue (list_all (λ a. is_within least greatest a.value) entries)
  pub falls : IsTrue (never_falls entries)

-- the text with this journal has no more bytes and lines than a text may have
pub record IsWithinLimits (ports : List Word) (entries : List Arrival) (text : List ℕ) : Type 0 where
  pub bytes : length (text_with_journal ports entries text) ≤ most_bytes
  pub lines : length (lines_before text) + 1 + length entries ≤ 65536
