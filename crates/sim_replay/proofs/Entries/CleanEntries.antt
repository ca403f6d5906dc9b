-- The lines of a journal as it is written have no fault behind a text's other lines, and add its entries.
--     journal_clean      no fault
--     journal_adds       the entries
use Rattle.std.proofs.Common.{◌≡◌, refl, sym, ap, subst, ◌∙◌, ℕ, zero, suc, ◌+◌, ◌<◌, ◌≤◌, Bool, true, false, nat_le, List, [], ◌∷◌, ◌++◌, length, map, codes, ℤ, pos, Option, Some, None, is_some, arith}
use Rattle.std.specs.Int.Signed.{lt_z}
use Rattle.std.specs.List.{All, AllByRecursion, find}
use Rattle.std.proofs.lemmas.Bool.{and_parts, leb-true, le-ltb, lt-leb}
use Rattle.std.proofs.lemmas.Int.{ints}
use Rattle.std.proofs.lemmas.List.{append-nil, append_assoc}
use Rattle.std.proofs.lemmas.List.Elements.{All-head, All-tail}
use Rattle.sim_types.specs.Scenarios.{ScenarioOf}
use Rattle.sim_types.specs.declared.setup.Arrival.{Arrival}
use Rattle.sim_language.specs.declared.form.Form.TheVariants as form
use Rattle.sim_language.specs.declared.form.Meaning.{Meaning}
use Rattle.sim_language.specs.declared.form.Sort.TheVariants as sort
use Rattle.sim_language.specs.declared.form.Version.{Version}
use Rattle.sim_language.specs.Lines.{Word}
use Rattle.sim_language.specs.Named.{Named, value_of, is_named}
use Rattle.sim_language.specs.AnywhereInText.{ProcessLines}
use Rattle.sim_language.specs.Sayings.{TextLine, Says}
use Rattle.sim_language.specs.Blocks.{open_blocks}
use Rattle.sim_language.specs.Declarations.{sort_by, sort_of, declared}
use Rattle.sim_language.specs.Places.{LineInText, places, is_entry, count_above, worded_above, journal_above, after_above}
use Rattle.sim_language.specs.NameFaults.{unknown_name, wrong_kind}
use Rattle.sim_language.specs.OrderFaults.{bad_header, bad_header_at, misplaced, falls, bad_order}
use Rattle.sim_language.specs.LimitFaults.{too_many}
use Rattle.sim_language.specs.Faults.{applies, kinds_in_order, fault_at, first_fault}
use Rattle.sim_language.specs.Reads.{with_arrival, add_said, with_lines}
use Rattle.sim_language.specs.WellFormed.{never_falls}
use Rattle.sim_trace.specs.Texts.{port_word}
use Rattle.sim_language_law.proofs.Lines.Walking.{place_at, passed}
use Rattle.sim_language_law.proofs.Lines.LineByLine.{line}
use Rattle.sim_replay.proofs.Entries.NamedPorts.{port_meaning}
use Rattle.sim_replay.proofs.Entries.EntryLines.{GoodEntry, entry_slots, entry_line, journal_lines, after_literal, poster_literal, serial_literal, value_read}

-- ---- nothing is found

none_found : {X : Type 0} (test : X → Bool) (xs : List X) → AllByRecursion (λ x. test x ≡ false) xs → find test xs ≡ None
none_found test [] h = refl
none_found test (x ∷ xs) h = rw h.0 (none_found test xs h.1)

-- ---- what stands above

-- the lines above end in no process, behind the header; these names are declared, so many entries stand there, and the last of
-- them has this number of events
pub record Ready (ds : List (Named Meaning)) (many : ℕ) (last : Option ℤ) (above : List TextLine) : Type 0 where
  pub closed : open_blocks above ≡ None
  pub worded : 2 ≤ worded_above above
  pub declared : declared above ≡ ds
  pub entries : count_above is_entry above ≡ many
  pub after : after_above above ≡ last

-- a text may end behind these lines
pub record AtEnd (above : List TextLine) : Type 0 where
  pub closed : open_blocks above ≡ None
  pub worded : 2 ≤ worded_above above

header_there : (n : ℕ) (l : TextLine) → 2 ≤ n → bad_header_at n l ≡ false
header_there zero l h = absurd (omega (arith, h))
header_there (suc zero) l h = absurd (omega (arith, h))
header_there (suc (suc n)) l h = refl

-- ---- the first line

abbrev first_line : TextLine
first_line = line (codes "journal" ∷ []) (Says form.Journal [])

module _ (heads : ProcessLines) (ds : List (Named Meaning)) (last : Option ℤ) (n : ℕ) (above below : List TextLine)
    (ready : Ready ds 0 last above) where
  first_clean : n ≤ 65536 → fault_at heads (place_at n above first_line below) ≡ None
  first_clean few =
      let place : LineInText = place_at n above first_line below in
      let header : bad_header place.above place.line ≡ false = header_there (worded_above above) first_line ready.worded in
      let misplaced : is_some (open_blocks above) ≡ false = ap is_some ready.closed in
      let many : too_many place form.Journal [] ≡ false = rw (le-ltb 65536 n few) refl in
      none_found (λ kind. applies kind heads place) kinds_in_order
      (refl, (refl, (header, (refl, (refl, (refl, (refl, (refl, (refl, (refl, (misplaced, (many, (refl, (refl, (refl, tt)))))))))))))))

  first_ready : Ready ds 0 last (first_line ∷ above)
  first_ready =
      record { closed = ready.closed; worded = omega (arith, ready.worded); declared = ready.declared; entries = ready.entries; after = ready.after }

-- ---- an entry

-- its port is declared by its number
abbrev pub IsKnown : List (Named Meaning) → List Word → Arrival → Type 0
IsKnown ds ports a = value_of (port_word ports a.port) ds ≡ Some (port_meaning a.port)

-- no entry stands above that comes later
abbrev pub NotBefore : Option ℤ → ℕ → Type 0
NotBefore None n = Unit {0}
NotBefore (Some z) n = lt_z (pos n) z ≡ false

in_order : (last : Option ℤ) (n : ℕ) → NotBefore last n → falls last (Some (pos n)) ≡ false
in_order None n h = refl
in_order (Some z) n h = h

module _ (heads : ProcessLines) (version : Version) (ds : List (Named Meaning)) (ports : List Word) (last : Option ℤ) (many n : ℕ)
    (above below : List TextLine)
    (ready : Ready ds many last above) (journal : journal_above above ≡ true) (a : Arrival) (good : GoodEntry version ports a)
    (known : IsKnown ds ports a) where
  known_here : value_of (port_word ports a.port) (declared above) ≡ Some (port_meaning a.port)
  known_here = subst (λ es. value_of (port_word ports a.port) es ≡ Some (port_meaning a.port)) (sym ready.declared) known

  is_port_here : sort_of heads (declared above) (port_word ports a.port) ≡ Some sort.Port
  is_port_here = ap (λ o. sort_by o (is_named (port_word ports a.port) heads)) known_here

  abbrev entry_place : LineInText
  entry_place = place_at n above (entry_line ports a) below

  entry_clean : NotBefore last a.after → n ≤ 65536 → many < 65536 → fault_at heads entry_place ≡ None
  entry_clean later few room =
      let header : bad_header entry_place.above entry_place.line ≡ false = header_there (worded_above above) (entry_line ports a) ready.worded in
      let unknown : unknown_name heads entry_place.above (entry_slots ports a) ≡ false = rw is_port_here refl in
      let kind : wrong_kind heads entry_place.above form.After (entry_slots ports a) ≡ false = rw is_port_here refl in
      let placed : misplaced entry_place.above form.After (entry_slots ports a) ≡ false = rw journal refl in
      let many_here : count_above is_entry above < 65536 = subst (λ m. m < 65536) (sym ready.entries) room in
      let fits : too_many entry_place form.After (entry_slots ports a) ≡ false =
      rw (le-ltb 65536 n few, lt-leb 65536 (count_above is_entry above) many_here) refl in
      let order : bad_order entry_place.above form.After (entry_slots ports a) ≡ false =
      rw (ready.after, after_literal version ports a good) (in_order last a.after later) in
      none_found (λ k. applies k heads entry_place) kinds_in_order
      (refl, (refl, (header, (refl, (refl, (refl, (refl, (refl, (unknown, (kind, (placed, (fits, (refl, (refl, (order, tt)))))))))))))))

  entry_ready : Ready ds (many + 1) (Some (pos a.after)) (entry_line ports a ∷ above)
  entry_ready = record {
    closed = ready.closed;
    worded = omega (arith, ready.worded);
    declared = ready.declared;
    entries = ap (λ m. m + 1) ready.entries;
    after = after_literal version ports a good;
  }

  entry_adds : (s : ScenarioOf) → add_said heads entry_place (entry_line ports a).saying s ≡ with_arrival s a
  entry_adds s =
      rw (
        after_literal version ports a good,
        poster_literal version ports a good,
        serial_literal version ports a good,
        value_read version ports a good,
        known_here,
      ) refl

-- ---- all entries

abbrev pub Follows : Option ℤ → List Arrival → Type 0
Follows last [] = Unit {0}
Follows last (a ∷ entries) = NotBefore last a.after

next_follows : (a : Arrival) (entries : List Arrival) → never_falls (a ∷ entries) ≡ true
    → Follows (Some (pos a.after)) entries × (never_falls entries ≡ true)
next_follows a [] h = (tt, refl)
next_follows a (b ∷ entries) h =
    let parts = and_parts (nat_le a.after b.after) (never_falls (b ∷ entries)) h in
    (not_later a.after b.after (leb-true a.after b.after parts.0), parts.1)
  where
    not_later : (m k : ℕ) → m ≤ k → lt_z (pos k) (pos m) ≡ false
    not_later m k e = grind (arith, ints, e)

-- an entry that may stand there
pub record FittingEntry (version : Version) (ds : List (Named Meaning)) (ports : List Word) (a : Arrival) : Type 0 where
  pub good : GoodEntry version ports a
  pub known : IsKnown ds ports a

module _ (heads : ProcessLines) (version : Version) (ds : List (Named Meaning)) (ports : List Word) where
  -- where all this holds, the entries may stand behind these lines
  pub record MayStand (n many : ℕ) (last : Option ℤ) (above : List TextLine) (entries : List Arrival) : Type 0 where
    pub ready : Ready ds many last above
    pub journal : journal_above above ≡ true
    pub fitting : All (FittingEntry version ds ports) entries
    pub follows : Follows last entries
    pub falls : never_falls entries ≡ true
    pub lines : n + length entries ≤ 65537
    pub room : many + length entries ≤ 65536

  stand_next : (n many : ℕ) (last : Option ℤ) (above : List TextLine) (a : Arrival) (entries : List Arrival) → MayStand n many last above (a ∷ entries)
      → MayStand (n + 1) (many + 1) (Some (pos a.after)) (entry_line ports a ∷ above) entries
  stand_next n many last above a entries stand =
      let here = All-head (FittingEntry version ds ports) a entries stand.fitting in
      let next = next_follows a entries stand.falls in
      record {
        ready = entry_ready heads version ds ports last many n above (map (entry_line ports) entries) stand.ready
            stand.journal a here.good here.known;
        journal = stand.journal;
        fitting = All-tail (FittingEntry version ds ports) a entries stand.fitting;
        follows = next.0;
        falls = next.1;
        lines = omega (arith, stand.lines);
        room = omega (arith, stand.room);
      }

  entries_clean : (n many : ℕ) (last : Option ℤ) (above : List TextLine) (entries : List Arrival) → MayStand n many last above entries
      → first_fault heads (places n above (map (entry_line ports) entries)) None ≡ None
  entries_clean n many last above [] stand = refl
  entries_clean n many last above (a ∷ entries) stand =
      let here = All-head (FittingEntry version ds ports) a entries stand.fitting in
      let clean =
      entry_clean heads version ds ports last many n above (map (entry_line ports) entries) stand.ready stand.journal a here.good here.known
      stand.follows
      (omega (arith, stand.lines)) (omega (arith, stand.room)) in
      rw clean (entries_clean (n + 1) (many + 1) (Some (pos a.after)) (entry_line ports a ∷ above) entries
      (stand_next n many last above a entries stand))

  entries_add : (n many : ℕ) (last : Option ℤ) (above : List TextLine) (entries : List Arrival) (s : ScenarioOf) → MayStand n many last above entries
      → with_lines heads s (places n above (map (entry_line ports) entries)) ≡ record s { journal = s.journal ++ entries }
  entries_add n many last above [] s stand = ap (λ j. record s { journal = j }) (sym (append-nil s.journal))
  entries_add n many last above (a ∷ entries) s stand =
      let here = All-head (FittingEntry version ds ports) a entries stand.fitting in
      let added =
      entry_adds heads version ds ports last many n above (map (entry_line ports) entries) stand.ready stand.journal a here.good here.known s in
      ap (λ t. with_lines heads t (places (n + 1) (entry_line ports a ∷ above) (map (entry_line ports) entries))) added
      ∙ entries_add (n + 1) (many + 1) (Some (pos a.after)) (entry_line ports a ∷ above) entries (with_arrival s a)
      (stand_next n many last above a entries stand)
      ∙ ap (λ j. record s { journal = j }) (append_assoc s.journal (a ∷ []) entries)

  entries_end : (n many : ℕ) (last : Option ℤ) (above : List TextLine) (entries : List Arrival) → MayStand n many last above entries
      → AtEnd (passed above (map (entry_line ports) entries))
  entries_end n many last above [] stand = record { closed = stand.ready.closed; worded = stand.ready.worded }
  entries_end n many last above (a ∷ entries) stand =
      entries_end (n + 1) (many + 1) (Some (pos a.after)) (entry_line ports a ∷ above) entries (stand_next n many last above a entries stand)

  -- ---- the journal

  module _ (n : ℕ) (last : Option ℤ) (above : List TextLine) (entries : List Arrival) (ready : Ready ds 0 last above)
      (fitting : All (FittingEntry version ds ports) entries) (follows : Follows last entries) (falls : never_falls entries ≡ true)
      (room : n + length entries ≤ 65536) where
    stand : MayStand (n + 1) 0 last (first_line ∷ above) entries
    stand = record {
      ready = first_ready heads ds last n above [] ready;
      journal = refl;
      fitting = fitting;
      follows = follows;
      falls = falls;
      lines = omega (arith, room);
      room = omega (arith, room);
    }

    pub journal_clean : first_fault heads (places n above (journal_lines ports entries)) None ≡ None
    journal_clean =
        rw (first_clean heads ds last n above (map (entry_line ports) entries) ready (omega (arith, room)))
        (entries_clean (n + 1) 0 last (first_line ∷ above) entries stand)

    pub journal_adds : (s : ScenarioOf)
        → with_lines heads s (places n above (journal_lines ports entries)) ≡ record s { journal = s.journal ++ entries }
    journal_adds s = entries_add (n + 1) 0 last (first_line ∷ above) entries s stand

    pub journal_ends : AtEnd (passed above (journal_lines ports entries))
    journal_ends = entries_end (n + 1) 0 last (first_line ∷ above) entries stand
