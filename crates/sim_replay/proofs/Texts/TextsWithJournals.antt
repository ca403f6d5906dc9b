-- A text with a journal behind its other lines says the same with that journal.
--     reads_with_journal      so it is
use Rattle.std.proofs.Common.{◌≡◌, refl, sym, ap, ap₂, subst, ◌∙◌, ℕ, ◌+◌, ◌≤◌, true, false, if◌then◌else◌, List, [], ◌∷◌, ◌++◌, length, map, codes, Option, None, Ok, Err, arith}
use Rattle.std.specs.List.{All, list_any}
use Rattle.std.proofs.lemmas.Bool.{le-ltb}
use Rattle.sim_types.specs.Limits.{most_bytes}
use Rattle.sim_types.specs.Scenarios.{ScenarioOf}
use Rattle.sim_types.specs.declared.setup.Arrival.{Arrival}
use Rattle.sim_types.specs.declared.fault.Fault.{Fault}
use Rattle.sim_types.specs.declared.fault.FaultKind.TheVariants as fault
use Rattle.sim_language.specs.Lines.{Word, lines}
use Rattle.sim_language.specs.AnywhereInText.{WholeText, version_of, whole_text}
use Rattle.sim_language.specs.Sayings.{TextLine, lines_from, sayings}
use Rattle.sim_language.specs.Declarations.{declared}
use Rattle.sim_language.specs.Places.{places}
use Rattle.sim_language.specs.Faults.{first_fault, end_fault}
use Rattle.sim_language.specs.Links.{linked}
use Rattle.sim_language.specs.Reads.{with_lines, nothing_said, unless_faulty, reads_lines, reads_text, is_too_long, reads}
use Rattle.sim_replay.specs.Sections.{begins_section, lines_before, text_with_journal, CanBeJournal, IsWithinLimits, with_journal}
use Rattle.sim_language_law.proofs.Lines.Walking.{passed}
use Rattle.sim_language_law.proofs.Lines.LinesSoFar.{SoFar, so_far}
use Rattle.sim_language_law.proofs.Anywhere.TextsAmong.{all_among}
use Rattle.sim_language_law.proofs.Scenarios.ReadTexts.{read_is}
use Rattle.sim_replay.proofs.Sections.LinesBehind.{places_appended, faults_appended, lines_appended, faultless_parts, faultless_whole}
use Rattle.sim_replay.proofs.Texts.EndedLines.{from_first, up_to_from, none_up_to, FirstPasses, first_passes}
use Rattle.sim_replay.proofs.Sections.SaidForms.{all_pass}
use Rattle.sim_replay.proofs.Sections.SectionLines.{is_of_section, said_behind}
use Rattle.sim_replay.proofs.Sections.PlainLines.{in_plain, lines_in_front}
use Rattle.sim_replay.proofs.Sections.SectionAdditions.{section_adds}
use Rattle.sim_replay.proofs.Entries.NamedPorts.{PortsNamed, ports_named}
use Rattle.sim_replay.proofs.Entries.EntryLines.{GoodEntry, entry_written, journal_lines, all_said}
use Rattle.sim_replay.proofs.Entries.CleanEntries.{Ready, AtEnd, FittingEntry, journal_clean, journal_adds, journal_ends}
use Rattle.sim_replay.proofs.Sections.FrontOfSections.{NoEntries, front_plain, front_ends, end_clean}
use Rattle.sim_replay.proofs.Sections.WholeOfFront.{has_words, words_there, version_front, Silent, whole_front, section_silent}
use Rattle.sim_replay.proofs.Texts.LinesWithJournals.{no_more, long, all_fit, follows_none, all_good, written_lines, lines_are}

passed_appended : (xs ys above : List TextLine) → passed above (xs ++ ys) ≡ passed (passed above xs) ys
passed_appended [] ys above = refl
passed_appended (x ∷ xs) ys above = passed_appended xs ys (x ∷ above)

-- ---- the text in front of its sections

module _ (text : List ℕ) (s : ScenarioOf) (read : reads text ≡ Ok s) where
  abbrev front : List Word
  front = lines_before text

  abbrev others : List Word
  others = from_first begins_section (lines text)

  abbrev whole : WholeText
  whole = whole_text (lines text)

  abbrev said : List TextLine
  said = lines_from (in_plain whole) front

  abbrev behind : List TextLine
  behind = lines_from (in_plain whole) others

  abbrev above : List TextLine
  above = passed [] said

  abbrev next : ℕ
  next = 1 + length said

  none : list_any begins_section front ≡ false
  none = none_up_to begins_section (lines text)

  text_split : front ++ others ≡ lines text
  text_split = up_to_from begins_section (lines text)

  said_split : sayings whole (lines text) ≡ said ++ behind
  said_split = ap (sayings whole) (sym text_split) ∙ lines_in_front whole front others none

  abbrev end : Option Fault
  end = end_fault (said ++ behind)

  clean : first_fault whole.heads (places 1 [] (said ++ behind)) end ≡ None
  clean = subst (λ ls. first_fault whole.heads (places 1 [] ls) (end_fault ls) ≡ None) said_split (read_is text s read).faultless.none

  ends : AtEnd above
  ends = front_ends whole front none others (first_passes begins_section (lines text)) clean

  placed : (more : List TextLine) → places 1 [] (said ++ more) ≡ places 1 [] said ++ places next above more
  placed more = places_appended said more 1 [] ends.closed

  clean_parts : (first_fault whole.heads (places 1 [] said) None ≡ None) × (first_fault whole.heads (places next above behind) end ≡ None)
  clean_parts =
      faultless_parts whole.heads (places 1 [] said) (first_fault whole.heads (places next above behind) end)
      (sym (faults_appended whole.heads (places 1 [] said) (places next above behind) end)
      ∙ subst (λ ps. first_fault whole.heads ps end ≡ None) (placed behind) clean)

  -- what they say
  abbrev front_says : ScenarioOf
  front_says = with_lines whole.heads nothing_said (places 1 [] said)

  all_so_far : SoFar front_says (1 + length said) above front_says
  all_so_far = so_far whole None front_says said (all_among whole front) clean_parts.0 refl

  front_ports : PortsNamed whole.version (declared above) front_says.port_names
  front_ports = ports_named whole None front_says said (all_among whole front) clean_parts.0 refl

  plain : NoEntries whole front none
  plain = front_plain whole front none clean_parts.0

  nothing_arrived : front_says.journal ≡ []
  nothing_arrived = no_more front_says.journal (omega (arith, all_so_far.entries.arrivals, plain.entries))

  no_posters : front_says.posters ≡ []
  no_posters = no_more front_says.posters (omega (arith, all_so_far.entries.posters, plain.posters))

  -- ---- the lines behind them

  section : all_pass is_of_section behind ≡ true
  section = by others (first_passes begins_section (lines text))
    where
      by : (ls : List Word) → FirstPasses begins_section ls → all_pass is_of_section (lines_from (in_plain whole) ls) ≡ true
      by [] h = refl
      by (l ∷ ls) h = said_behind whole l ls h

  abbrev text_says : ScenarioOf
  text_says = with_lines whole.heads nothing_said (places 1 [] (sayings whole (lines text)))

  text_adds : with_journal [] text_says ≡ with_journal [] front_says
  text_adds =
      ap (λ ls. with_journal [] (with_lines whole.heads nothing_said (places 1 [] ls))) said_split
      ∙ (ap (λ ps. with_journal [] (with_lines whole.heads nothing_said ps)) (placed behind)
      ∙ (ap (with_journal []) (lines_appended whole.heads (places 1 [] said) (places next above behind) nothing_said)
      ∙ section_adds whole.heads behind next above front_says section))

  -- the lines in front, with this journal
  abbrev closed_with : List Arrival → ScenarioOf → ScenarioOf
  closed_with entries t = record t { code = linked 0 t.code; journal = entries; posters = [] }

  text_is : (entries : List Arrival) → with_journal entries s ≡ closed_with entries front_says
  text_is entries = ap (with_journal entries) (sym (read_is text s read).is) ∙ ap (closed_with entries) text_adds

  names_are : front_says.port_names ≡ s.port_names
  names_are = sym (ap (λ t. t.port_names) (text_is []))

  ports_are : front_says.setup.ports ≡ s.setup.ports
  ports_are = sym (ap (λ t. t.setup.ports) (text_is []))

  named : length s.setup.ports ≡ length s.port_names
  named = sym (ap length ports_are) ∙ (sym all_so_far.alone.named ∙ ap length names_are)

  known : PortsNamed whole.version (declared above) s.port_names
  known = subst (PortsNamed whole.version (declared above)) names_are front_ports

  -- ---- what is taken from the whole

  words_in_front : has_words front ≡ true
  words_in_front = words_there (in_plain whole) front ends.worded

  version_is : whole.version ≡ version_of front
  version_is = ap version_of (sym text_split) ∙ version_front front others words_in_front

  silent : Silent whole.version others
  silent = section_silent whole end others next above section clean_parts.1

  whole_is : whole ≡ whole_text front
  whole_is =
      ap whole_text (sym text_split)
      ∙ whole_front front others words_in_front (subst (λ v. Silent v others) version_is silent)

-- ---- the text with this journal

module _ (text : List ℕ) (s : ScenarioOf) (read : reads text ≡ Ok s)
    (entries : List Arrival) (can : CanBeJournal s entries) (room : IsWithinLimits s.port_names entries text) where
  abbrev old : WholeText
  old = whole text s read

  abbrev first : List TextLine
  first = said text s read

  abbrev up : List TextLine
  up = above text s read

  abbrev place : ℕ
  place = next text s read

  abbrev journal : List TextLine
  journal = journal_lines s.port_names entries

  abbrev tail : List Word
  tail = written_lines s.port_names entries

  fits : All (FittingEntry old.version (declared up) s.port_names) entries
  fits = all_fit s old.version s.port_names (named text s read) (declared up) (known text s read) entries can.fit can.values

  good : All (GoodEntry old.version s.port_names) entries
  good = all_good entries fits

  -- ---- its lines

  journal_is : lines_from (in_plain old) tail ≡ journal
  journal_is = all_said old s.port_names entries good

  lines_said : lines_from (in_plain old) (lines_before text ++ tail) ≡ first ++ journal
  lines_said =
      lines_in_front old (lines_before text) tail (none text s read)
      ∙ ap (λ ys. first ++ ys) journal_is

  ready : Ready (declared up) 0 None up
  ready =
      let ends_here = ends text s read in
      let plain_here = plain text s read in
      record { closed = ends_here.closed; worded = ends_here.worded; declared = refl; entries = plain_here.entries; after = plain_here.after }

  lines_few : place + length entries ≤ 65536
  lines_few = omega (arith, room.lines, long (in_plain old) (lines_before text))

  journal_faultless : first_fault old.heads (places place up journal) None ≡ None
  journal_faultless =
      journal_clean old.heads old.version (declared up) s.port_names place None up entries ready fits (follows_none entries) can.falls lines_few

  abbrev last : Option Fault
  last = end_fault (first ++ journal)

  ends_well : last ≡ None
  ends_well =
      end_clean (first ++ journal)
      (subst AtEnd (sym (passed_appended first journal []))
      (journal_ends old.heads old.version (declared up) s.port_names place None up entries ready fits (follows_none entries) can.falls lines_few))

  all_faultless : first_fault old.heads (places 1 [] (first ++ journal)) last ≡ None
  all_faultless =
      ap (λ ps. first_fault old.heads ps last) (placed text s read journal)
      ∙ (faults_appended old.heads (places 1 [] first) (places place up journal) last
      ∙ faultless_whole old.heads (places 1 [] first) (first_fault old.heads (places place up journal) last) (clean_parts text s read).0
      (faultless_whole old.heads (places place up journal) last journal_faultless ends_well))

  abbrev front_scenario : ScenarioOf
  front_scenario = front_says text s read

  all_say : with_lines old.heads nothing_said (places 1 [] (first ++ journal)) ≡ record front_scenario { journal = front_scenario.journal ++ entries }
  all_say =
      ap (with_lines old.heads nothing_said) (placed text s read journal)
      ∙ (lines_appended old.heads (places 1 [] first) (places place up journal) nothing_said
      ∙ journal_adds old.heads old.version (declared up) s.port_names place None up entries ready fits
      (follows_none entries) can.falls lines_few front_scenario)

  -- ---- what is taken from the whole

  tail_silent : Silent old.version tail
  tail_silent =
      section_silent old None tail place up (said_behind old (codes "journal") (map (entry_written s.port_names) entries) refl)
      (subst (λ ls. first_fault old.heads (places place up ls) None ≡ None) (sym journal_is) journal_faultless)

  whole_new : whole_text (lines_before text ++ tail) ≡ old
  whole_new =
      whole_front (lines_before text) tail (words_in_front text s read) (subst (λ v. Silent v tail) (version_is text s read) tail_silent)
      ∙ sym (whole_is text s read)

  -- ---- what it says

  abbrev bytes : List ℕ
  bytes = text_with_journal s.port_names entries text

  not_long : is_too_long bytes ≡ false
  not_long = le-ltb most_bytes (length bytes) room.bytes

  lines_new : lines bytes ≡ lines_before text ++ tail
  lines_new = lines_are old.version s.port_names entries text good

  pub reads_with_journal : reads bytes ≡ Ok (with_journal entries s)
  reads_with_journal =
      ap (λ b. if b then Err (record { line = 0; kind = fault.TooLong }) else reads_text (whole_text (lines bytes)) (lines bytes)) not_long
      ∙ (ap (λ ls. reads_text (whole_text ls) ls) lines_new
      ∙ (ap (λ w. reads_text w (lines_before text ++ tail)) whole_new
      ∙ (ap (reads_lines old.heads) lines_said
      ∙ (ap₂ unless_faulty all_faultless all_say
      ∙ (ap₂ (λ j p. Ok (record front_scenario { code = linked 0 front_scenario.code; journal = j; posters = p }))
      (ap (λ j. j ++ entries) (nothing_arrived text s read)) (no_posters text s read)
      ∙ ap Ok (sym (text_is text s read entries)))))))
