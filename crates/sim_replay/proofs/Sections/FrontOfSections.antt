-- The lines of a faultless text in front of its sections.
--     front_ends      they end in no process, behind the header
--     front_plain     none of them gives an entry or a poster
--     at_end, end_clean      what the end of a text without a fault is
use Rattle.std.proofs.Common.{◌≡◌, refl, sym, ap, subst, ◌∙◌, ℕ, zero, suc, ◌+◌, ◌≤◌, Bool, true, false, not, ◌||◌, if◌then◌else◌, nat_lt, List, [], ◌∷◌, ◌++◌, length, reverse, codes, Option, Some, None, is_some, arith}
use Rattle.std.specs.List.{list_any, list_all}
use Rattle.std.proofs.lemmas.Bool.{false≢true, true≢false, and_parts, and_from, or_parts, ltb-false, le-ltb, not-true}
use Rattle.std.proofs.lemmas.List.{append-nil, append_assoc}
use Rattle.std.proofs.lemmas.Grind.{reverse_onto}
use Rattle.std.proofs.lemmas.Option.{none-some}
use Rattle.sim_types.specs.declared.fault.Fault.{Fault}
use Rattle.sim_types.specs.declared.fault.FaultKind.TheVariants as fault
use Rattle.sim_language.specs.declared.form.Form.{Form}
use Rattle.sim_language.specs.declared.form.Form.TheVariants as form
use Rattle.sim_language.specs.Lines.{Word, same, cut, words}
use Rattle.sim_language.specs.Shapes.{Operand, Context}
use Rattle.sim_language.specs.AnywhereInText.{ProcessLines, WholeText}
use Rattle.sim_language.specs.Sayings.{TextLine, Saying, Blank, Wrong, Says, context_of, begins_with, saying, line_of, setting_behind, lines_from}
use Rattle.sim_language.specs.Blocks.{open_blocks, says}
use Rattle.sim_language.specs.Places.{above_of, places, is_entry, is_poster, count_above, worded_above, journal_above, after_above}
use Rattle.sim_language.specs.OrderFaults.{is_header, bad_header_at}
use Rattle.sim_language.specs.Faults.{fault_at, fault_past, at_line, first_fault, end_fault}
use Rattle.sim_replay.specs.Sections.{begins_section}
use Rattle.sim_language_law.proofs.Lines.Walking.{place_at, passed}
use Rattle.sim_language_law.proofs.Lines.Faultless.{Faultless, faultless}
use Rattle.sim_language_law.proofs.Names.NamedLists.{same_is}
use Rattle.sim_language_law.proofs.Lines.LineByLine.{line, first_faultless, others_clean}
use Rattle.sim_language_law.proofs.Anywhere.RightLines.{IsRightLine, is_right, right_line}
use Rattle.sim_language_law.proofs.Blocks.ClosedTexts.{nothing_at_line, no_blocks}
use Rattle.sim_replay.proofs.Sections.SaidForms.{passes, all_pass}
use Rattle.sim_replay.proofs.Sections.PlainLines.{is_in_front, in_plain, words_in_front, said_in_front}
use Rattle.sim_replay.proofs.Sections.SectionLines.{opens_section, said_first}
use Rattle.sim_replay.proofs.Texts.EndedLines.{FirstPasses}
use Rattle.sim_replay.proofs.Entries.CleanEntries.{AtEnd}

-- ---- the end of a text

passed_reverse : (ls above : List TextLine) → passed above ls ≡ reverse ls ++ above
passed_reverse [] above = refl
passed_reverse (l ∷ ls) above =
    passed_reverse ls (l ∷ above) ∙ (sym (append_assoc (reverse ls) (l ∷ []) above) ∙ ap (λ front. front ++ above) (sym (reverse_onto ls l [])))

passed_all : (ls : List TextLine) → passed [] ls ≡ reverse ls
passed_all ls = passed_reverse ls [] ∙ append-nil (reverse ls)

ends_so : (above : List TextLine) → fault_past (above_of above) ≡ None → AtEnd above
ends_so above h = record { closed = no_blocks (open_blocks above) (both.1); worded = ltb-false (worded_above above) 2 both.0 }
  where
    by : (b c : Bool) → (if b then Some fault.BadHeader else (if c then Some fault.Unclosed else None)) ≡ None → (b ≡ false) × (c ≡ false)
    by true c e = absurd (none-some _ (sym e))
    by false true e = absurd (none-some _ (sym e))
    by false false e = (refl, refl)

    both : (nat_lt (worded_above above) 2 ≡ false) × (is_some (open_blocks above) ≡ false)
    both = by (nat_lt (worded_above above) 2) (is_some (open_blocks above)) h

pub at_end : (ls : List TextLine) → end_fault ls ≡ None → AtEnd (passed [] ls)
at_end ls h = subst AtEnd (sym (passed_all ls)) (ends_so (reverse ls) (nothing_at_line (length ls + 1) (fault_past (above_of (reverse ls))) h))

pub end_clean : (ls : List TextLine) → AtEnd (passed [] ls) → end_fault ls ≡ None
end_clean ls h = ap (at_line (length ls + 1)) (past (reverse ls) (subst AtEnd (passed_all ls) h))
  where
    past : (above : List TextLine) → AtEnd above → fault_past (above_of above) ≡ None
    past above e = rw (le-ltb (worded_above above) 2 e.worded, e.closed) refl

-- ---- the first line of a section

until_other : (w : Word) → (same w (codes "journal") || same w (codes "poster")) ≡ true → same w (codes "until") ≡ false
until_other w h = by (same w (codes "journal")) refl (same w (codes "poster")) refl h
  where
    by : (a : Bool) → same w (codes "journal") ≡ a → (b : Bool) → same w (codes "poster") ≡ b → (a || b) ≡ true → same w (codes "until") ≡ false
    by true e b f some = subst (λ v. same v (codes "until") ≡ false) (sym (same_is w (codes "journal") e)) refl
    by false e true f some = subst (λ v. same v (codes "until") ≡ false) (sym (same_is w (codes "poster") f)) refl
    by false e false f some = absurd (false≢true some)

behind_header : (n : ℕ) (w : Word) (ws : List Word) (said : Saying) → same w (codes "until") ≡ false → says is_header said ≡ false
    → bad_header_at n (line (w ∷ ws) said) ≡ false → 2 ≤ n
behind_header zero w ws said other none h = absurd (true≢false (ap not (sym none) ∙ h))
behind_header (suc zero) w ws said other none h = absurd (true≢false (ap not (sym other) ∙ h))
behind_header (suc (suc n)) w ws said other none h = omega arith

module _ (heads : ProcessLines) (n : ℕ) (above below : List TextLine) (context : Context) (w : Word) (ws : List Word)
    (opens : (same w (codes "journal") || same w (codes "poster")) ≡ true) where
  ends_by : (f : Form) (slots : List Operand) → is_header f ≡ false → Faultless heads (place_at n above (line (w ∷ ws) (Says f slots)) below) f slots
      → is_some (open_blocks above) ≡ false → AtEnd above
  ends_by f slots other none closed = record {
    closed = no_blocks (open_blocks above) closed;
    worded = behind_header (worded_above above) w ws (Says f slots) (until_other w opens) other none.header;
  }

  opening_says : (said : Saying) → passes opens_section said ≡ true → IsRightLine context w ws said
      → fault_at heads (place_at n above (line (w ∷ ws) said) below) ≡ None → AtEnd above
  opening_says Blank h right clean = absurd right
  opening_says (Wrong kind) h right clean = absurd right
  opening_says (Says form.Journal slots) h right clean =
      let none = faultless heads (place_at n above (line (w ∷ ws) (Says form.Journal slots)) below) form.Journal slots clean refl in
      ends_by form.Journal slots refl none none.misplaced
  opening_says (Says form.Poster slots) h right clean =
      let none = faultless heads (place_at n above (line (w ∷ ws) (Says form.Poster slots)) below) form.Poster slots clean refl in
      ends_by form.Poster slots refl none none.misplaced
  opening_says (Says f slots) h right clean = absurd (false≢true h)

-- ---- lines in front

-- neither are those behind them faulty
reach : (heads : ProcessLines) (end : Option Fault) (xs ys : List TextLine) (n : ℕ) (above : List TextLine)
    → first_fault heads (places n above (xs ++ ys)) end ≡ None
    → first_fault heads (places (n + length xs) (passed above xs) ys) end ≡ None
reach heads end [] ys n above h = let same : n + 0 ≡ n = omega arith in rw same h
reach heads end (x ∷ xs) ys n above h =
    let same : n + 1 + length xs ≡ n + suc (length xs) = omega arith in
    subst (λ m. first_fault heads (places m (passed (x ∷ above) xs) ys) end ≡ None) same
    (reach heads end xs ys (n + 1) (x ∷ above) (others_clean heads end n above x (xs ++ ys) h))

-- the lines that are no section's
abbrev pub is_ordinary : Form → Bool
is_ordinary form.Journal = false
is_ordinary form.After = false
is_ordinary form.Poster = false
is_ordinary form.Post = false
is_ordinary f = true

ordinary_line : (heads : ProcessLines) (n : ℕ) (above : List TextLine) (ws : List Word) (said : Saying) (below : List TextLine)
    → journal_above above ≡ false
    → passes is_in_front said ≡ true → fault_at heads (place_at n above (line ws said) below) ≡ None → passes is_ordinary said ≡ true
ordinary_line heads n above ws Blank below free h clean = refl
ordinary_line heads n above ws (Wrong kind) below free h clean = refl
ordinary_line heads n above ws (Says form.After slots) below free h clean =
    absurd (true≢false (ap not (sym free)
    ∙ (faultless heads (place_at n above (line ws (Says form.After slots)) below) form.After slots clean refl).misplaced))
ordinary_line heads n above ws (Says f slots) below free h clean = h

-- no line begins with `journal`
abbrev pub none_journal : List TextLine → Bool
none_journal ls = list_all (λ l. not (begins_with (codes "journal") l.words)) ls

ordinary_lines : (heads : ProcessLines) (end : Option Fault) (ls : List TextLine) (n : ℕ) (above : List TextLine) → journal_above above ≡ false
    → none_journal ls ≡ true
    → all_pass is_in_front ls ≡ true → first_fault heads (places n above ls) end ≡ None → all_pass is_ordinary ls ≡ true
ordinary_lines heads end [] n above free none h clean = refl
ordinary_lines heads end (l ∷ ls) n above free none h clean =
    let parts = and_parts (passes is_in_front l.saying) (all_pass is_in_front ls) h in
    let others = and_parts (not (begins_with (codes "journal") l.words)) (none_journal ls) none in
    let here = ordinary_line heads n above l.words l.saying ls free parts.0 (first_faultless heads end n above l ls clean) in
    let free_here : journal_above (l ∷ above) ≡ false = rw (not-true (begins_with (codes "journal") l.words) others.0) free in
    and_from _ _ here (ordinary_lines heads end ls (n + 1) (l ∷ above) free_here others.1 parts.1 (others_clean heads end n above l ls clean))

-- no entry, no poster, and no number of events
nothing_counted : (test : Form → Bool) → ((f : Form) → is_ordinary f ≡ true → test f ≡ false) → (ls above : List TextLine)
    → all_pass is_ordinary ls ≡ true
    → count_above test (passed above ls) ≡ count_above test above
nothing_counted test none [] above h = refl
nothing_counted test none (l ∷ ls) above h =
    let parts = and_parts (passes is_ordinary l.saying) (all_pass is_ordinary ls) h in
    nothing_counted test none ls (l ∷ above) parts.1 ∙ one l.words l.saying parts.0
  where
    one : (ws : List Word) (said : Saying) → passes is_ordinary said ≡ true → count_above test (line ws said ∷ above) ≡ count_above test above
    one ws Blank h = refl
    one ws (Wrong kind) h = refl
    one ws (Says f slots) h = rw (none f h) refl

nothing_after : (ls above : List TextLine) → all_pass is_ordinary ls ≡ true → after_above (passed above ls) ≡ after_above above
nothing_after [] above h = refl
nothing_after (l ∷ ls) above h =
    let parts = and_parts (passes is_ordinary l.saying) (all_pass is_ordinary ls) h in
    nothing_after ls (l ∷ above) parts.1 ∙ one l.words l.saying parts.0
  where
    one : (ws : List Word) (said : Saying) → passes is_ordinary said ≡ true → after_above (line ws said ∷ above) ≡ after_above above
    one ws Blank h = refl
    one ws (Wrong kind) h = refl
    one ws (Says form.After slots) h = absurd (false≢true h)
    one ws (Says f slots) h = refl

no_entry : (f : Form) → is_ordinary f ≡ true → is_entry f ≡ false
no_entry form.After h = absurd (false≢true h)
no_entry form.Post h = absurd (false≢true h)
no_entry f h = refl

no_poster : (f : Form) → is_ordinary f ≡ true → is_poster f ≡ false
no_poster form.Poster h = absurd (false≢true h)
no_poster f h = refl

-- ---- the whole

module _ (whole : WholeText) (front : List Word) (none : list_any begins_section front ≡ false) where
  abbrev said : List TextLine
  said = lines_from (in_plain whole) front

  front_words : (ls : List Word) → list_any begins_section ls ≡ false → none_journal (lines_from (in_plain whole) ls) ≡ true
  front_words [] h = refl
  front_words (l ∷ ls) h =
      let parts = or_parts (begins_section l) (list_any begins_section ls) h in
      let words_are = or_parts (begins_with (codes "journal") (words (cut l))) (begins_with (codes "poster") (words (cut l))) parts.0 in
      and_from _ _ (ap not words_are.0) (rw (words_in_front whole l (words (cut l)) parts.0).1 (front_words ls parts.1))

  -- neither an entry nor a poster stands there
  pub record NoEntries : Type 0 where
    pub entries : count_above is_entry (passed [] said) ≡ 0
    pub posters : count_above is_poster (passed [] said) ≡ 0
    pub after : after_above (passed [] said) ≡ None

  pub front_plain : first_fault whole.heads (places 1 [] said) None ≡ None → NoEntries
  front_plain clean =
      let ordinary = ordinary_lines whole.heads None said 1 [] refl (front_words front none) (said_in_front whole front none) clean in
      record {
        entries = nothing_counted is_entry no_entry said [] ordinary;
        posters = nothing_counted is_poster no_poster said [] ordinary;
        after = nothing_after said [] ordinary;
      }

  -- where no line is faulty in front of the others, which begin a section
  module _ (others : List Word) (first : FirstPasses begins_section others)
      (clean : first_fault whole.heads (places 1 [] (said ++ lines_from (in_plain whole) others))
      (end_fault (said ++ lines_from (in_plain whole) others)) ≡ None) where
    pub front_ends : AtEnd (passed [] said)
    front_ends = by others first clean
      where
        opening : (n : ℕ) (above : List TextLine) (l : Word) (ws : List Word) (below : List TextLine)
            → (begins_with (codes "journal") ws || begins_with (codes "poster") ws) ≡ true
            → passes opens_section (saying (in_plain whole) (cut l) ws) ≡ true
            → fault_at whole.heads (place_at n above (line ws (saying (in_plain whole) (cut l) ws)) below) ≡ None → AtEnd above
        opening n above l [] below opens h free = absurd (false≢true opens)
        opening n above l (w ∷ ws) below opens h free =
            let s = saying (in_plain whole) (cut l) (w ∷ ws) in
            opening_says whole.heads n above below (context_of (in_plain whole)) w ws opens s h
            (right_line (in_plain whole) w ws (cut l) (is_right whole.heads n above (w ∷ ws) s below free)) free

        by : (ls : List Word) → FirstPasses begins_section ls
            → first_fault whole.heads (places 1 [] (said ++ lines_from (in_plain whole) ls))
            (end_fault (said ++ lines_from (in_plain whole) ls)) ≡ None → AtEnd (passed [] said)
        by [] passing free =
            let past : end_fault (said ++ []) ≡ None = reach whole.heads (end_fault (said ++ [])) said [] 1 [] free in
            at_end said (subst (λ ls. end_fault ls ≡ None) (append-nil said) past)
        by (l ∷ ls) passing free =
            let below = lines_from (setting_behind (words (cut l)) (in_plain whole)) ls in
            let end = end_fault (said ++ lines_from (in_plain whole) (l ∷ ls)) in
            let here = first_faultless whole.heads end (1 + length said) (passed [] said) (line_of (in_plain whole) l) below
            (reach whole.heads end said (lines_from (in_plain whole) (l ∷ ls)) 1 [] free) in
            opening (1 + length said) (passed [] said) l (words (cut l)) below passing (said_first whole l passing) here
