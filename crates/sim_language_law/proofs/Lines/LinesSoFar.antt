-- What holds behind each line of a faultless text, whatever stands further down.
--     SoFar final n above s      it, for the lines above line n, which say s
--     so_far                     it holds at the end
use Rattle.std.specs.Prelude.{◌≡◌, refl, ℕ, ◌+◌, ◌≤◌, true, false, List, [], ◌∷◌, map, length, Option, Some, None}
use Rattle.std.specs.List.{list_any}
use Rattle.std.proofs.Common.{sym, ap, ◌∙◌, subst}
use Rattle.std.proofs.lemmas.Bool.{or_parts}
use Rattle.std.proofs.lemmas.List.{append-nil}
use Rattle.sim_types.specs.Scenarios.{ScenarioOf}
use Rattle.sim_types.specs.declared.fault.Fault.{Fault}
use Rattle.sim_language.specs.declared.form.Form.{Form}
use Rattle.sim_language.specs.declared.form.Form.TheVariants as form
use Rattle.sim_language.specs.Lines.{Word}
use Rattle.sim_language.specs.Named.{is_named, value_of}
use Rattle.sim_language.specs.Forms.{declares_sort}
use Rattle.sim_language.specs.declared.shape.Role.TheVariants.{Declares, Parameter}
use Rattle.sim_language.specs.Shapes.{Operand, slot_of}
use Rattle.sim_language.specs.AnywhereInText.{WholeText}
use Rattle.sim_language.specs.Blocks.{statements}
use Rattle.sim_language.specs.Sayings.{TextLine, Saying, Blank, Wrong, Says}
use Rattle.sim_language.specs.Declarations.{declared, with_declared}
use Rattle.sim_language.specs.Places.{LineInText, places, after_then}
use Rattle.sim_language.specs.NameFaults.{declares_again}
use Rattle.sim_language.specs.Faults.{first_fault}
use Rattle.sim_language.specs.Reads.{with_lines, nothing_said, kind_of}
use Rattle.sim_language_law.proofs.Lines.Walking.{place_at, passed}
use Rattle.sim_language_law.proofs.Lines.Additions.{Added, put_in, added}
use Rattle.sim_language_law.proofs.Lines.AdditionsByForm.{Told, told}
use Rattle.sim_language_law.proofs.Lines.CleanLines.{CleanLine, of_shape}
use Rattle.sim_language_law.proofs.Lines.LineByLine.{line, AllAmong, Passing, Steps, by_lines}
use Rattle.sim_language_law.proofs.Setups.FittingAdditions.{FitsAlone, fits_alone}
use Rattle.sim_language_law.proofs.Setups.FittingSetup.{Alone, alone_nothing, alone_later, alone_line, kind_params}
use Rattle.sim_language_law.proofs.Names.DeclaredNames.{Declared, declared_nothing, declared_line, Grown, grown}
use Rattle.sim_language_law.proofs.Lines.GrowingScenarios.{Grows, grows_lines}
use Rattle.sim_language_law.proofs.Setups.EntriesByForm.{PortThere, port_there, OrderFits, order_fits}
use Rattle.sim_language_law.proofs.Setups.FittingEntries.{Entries, entries_nothing, entries_line}
use Rattle.sim_language_law.proofs.Names.NamesApart.{Apart}
use Rattle.sim_language_law.proofs.Processes.ProcessHeads.{ProcessHeads, heads_nothing, heads_other, heads_process, kind_classes, heads_above}

-- ---- a line of these operands

module _ (whole : WholeText) (place : LineInText) (f : Form) (slots : List Operand) (clean : CleanLine whole place f slots) where
  pub told_line : Told f (added whole.heads place f slots)
  told_line = of_shape whole place f slots clean (λ more. Told f (added whole.heads place f more)) (told clean.fits.fits.context whole.heads place f)

  pub alone_fits : FitsAlone (added whole.heads place f slots)
  alone_fits = of_shape whole place f slots clean (λ more. CleanLine whole place f more → FitsAlone (added whole.heads place f more)) (fits_alone clean.fits.fits.context whole place f) clean

  pub grown_line : Grown f (declares_sort f) place.above.declared (with_declared place.above.declared f (declares_sort f) slots)
  grown_line = of_shape whole place f slots clean (λ more. list_any (declares_again place.above) more ≡ false → Grown f (declares_sort f) place.above.declared (with_declared place.above.declared f (declares_sort f) more)) (grown clean.fits.fits.context place.above f) clean.again

  pub ports_there : (s : ScenarioOf) (n : ℕ) → Declared place.above.declared s → length s.setup.ports ≤ n → PortThere n (added whole.heads place f slots)
  ports_there s n = of_shape whole place f slots clean (λ more. CleanLine whole place f more → Declared place.above.declared s → length s.setup.ports ≤ n → PortThere n (added whole.heads place f more)) (port_there clean.fits.fits.context whole place s n f) clean

  pub order_kept : OrderFits place.above.after (after_then (Says f slots) place.above.after) (added whole.heads place f slots)
  order_kept = of_shape whole place f slots clean (λ more. CleanLine whole place f more → OrderFits place.above.after (after_then (Says f more) place.above.after) (added whole.heads place f more)) (order_fits clean.fits.fits.context whole place f) clean

-- ---- the process lines behind a line

heads_line : (whole : WholeText) (n : ℕ) (above : List TextLine) (ws : List Word) (f : Form) (slots : List Operand) (below : List TextLine) (s : ScenarioOf)
    → CleanLine whole (place_at n above (line ws (Says f slots)) below) f slots → ProcessHeads above s
    → ProcessHeads (line ws (Says f slots) ∷ above) (put_in (added whole.heads (place_at n above (line ws (Says f slots)) below) f slots) s)
heads_line whole n above ws form.Process slots below s clean h = of_shape whole (place slots) form.Process slots clean (λ more. CleanLine whole (place more) form.Process more → Behind more) process clean
  where
    place : List Operand → LineInText
    place more = place_at n above (line ws (Says form.Process more)) below

    Behind : List Operand → Type 0
    Behind more = ProcessHeads (line ws (Says form.Process more) ∷ above) (put_in (added whole.heads (place more) form.Process more) s)

    operands : Word → List Word → List Operand
    operands name params = slot_of Declares name ∷ map (slot_of Parameter) params

    process : (name : Word) (params : List Word) → CleanLine whole (place (operands name params)) form.Process (operands name params)
        → Behind (operands name params)
    process name params fine =
        let more : List Operand = operands name params in
        let few = kind_params (kind_of (place more) more) (alone_fits whole (place more) form.Process more fine) in
        let classes = kind_classes name params below (statements above) fine.repeats few in
        heads_process above ws name params (kind_of (place more) more) s (or_parts (is_named name (declared above)) _ fine.again).0 classes h
heads_line whole n above ws f slots below s clean h =
    let place : LineInText = place_at n above (line ws (Says f slots)) below in
    heads_other above ws f slots (added whole.heads place f slots) s refl (told_line whole place f slots clean) (grown_line whole place f slots clean) h

-- ---- lines that say nothing

-- the line says no form
abbrev pub IsQuiet : Saying → Type 0
IsQuiet (Says f slots) = ⊥
IsQuiet other = Unit {0}

entries_quiet : (above : List TextLine) (ws : List Word) (saying : Saying) (final s : ScenarioOf) → IsQuiet saying
    → Entries above final s → Entries (line ws saying ∷ above) final s
entries_quiet above ws Blank final s quiet h = record { all = h.all; arrivals = h.arrivals; journal = h.journal; falls = h.falls; last = h.last; few = h.few; posters = h.posters; posts = h.posts }
entries_quiet above ws (Wrong kind) final s quiet h = record { all = h.all; arrivals = h.arrivals; journal = h.journal; falls = h.falls; last = h.last; few = h.few; posters = h.posters; posts = h.posts }
entries_quiet above ws (Says f slots) final s quiet h = absurd quiet

heads_same : (above : List TextLine) (l : TextLine) (s : ScenarioOf) → heads_above (l ∷ above) ≡ heads_above above
    → declared (l ∷ above) ≡ declared above → ProcessHeads above s → ProcessHeads (l ∷ above) s
heads_same above l s heads ds h = record {
  apart = subst (λ hs. Apart [] hs) (sym heads) h.apart;
  named = λ w e. subst (λ more. is_named w more ≡ true) (sym ds) (h.named w (subst (λ hs. is_named w hs ≡ true) heads e));
  processes = λ w d e sorted. subst (λ hs. is_named w hs ≡ true) (sym heads) (h.processes w d (subst (λ more. value_of w more ≡ Some d) ds e) sorted);
  classes = h.classes ∙ ap (map (λ head. head.value)) (sym heads);
}

heads_quiet : (above : List TextLine) (ws : List Word) (saying : Saying) (s : ScenarioOf) → IsQuiet saying
    → ProcessHeads above s → ProcessHeads (line ws saying ∷ above) s
heads_quiet above ws Blank s quiet h = heads_same above (line ws Blank) s (append-nil (heads_above above)) refl h
heads_quiet above ws (Wrong kind) s quiet h = heads_same above (line ws (Wrong kind)) s (append-nil (heads_above above)) refl h
heads_quiet above ws (Says f slots) s quiet h = absurd quiet

pub declared_quiet : (above : List TextLine) (ws : List Word) (saying : Saying) → IsQuiet saying → declared (line ws saying ∷ above) ≡ declared above
declared_quiet above ws Blank quiet = refl
declared_quiet above ws (Wrong kind) quiet = refl
declared_quiet above ws (Says f slots) quiet = absurd quiet

-- ---- the whole

pub record SoFar (final : ScenarioOf) (n : ℕ) (above : List TextLine) (s : ScenarioOf) : Type 0 where
  pub declared : Declared (declared above) s
  pub alone : Alone n s
  pub entries : Entries above final s
  pub heads : ProcessHeads above s

pub so_far_nothing : (final : ScenarioOf) → SoFar final 1 [] nothing_said
so_far_nothing final = record { declared = declared_nothing; alone = alone_nothing; entries = entries_nothing final; heads = heads_nothing }

pub so_far_quiet : (final : ScenarioOf) (n : ℕ) (above : List TextLine) (ws : List Word) (saying : Saying) (s : ScenarioOf)
    → IsQuiet saying → SoFar final n above s → SoFar final (n + 1) (line ws saying ∷ above) s
so_far_quiet final n above ws saying s quiet h = record {
  declared = subst (λ ds. Declared ds s) (sym (declared_quiet above ws saying quiet)) h.declared;
  alone = alone_later n s h.alone;
  entries = entries_quiet above ws saying final s quiet h.entries;
  heads = heads_quiet above ws saying s quiet h.heads;
}

module _ (whole : WholeText) (end : Option Fault) (final : ScenarioOf) where
  pub grows : (n : ℕ) (above : List TextLine) (ws : List Word) (f : Form) (slots : List Operand) (below : List TextLine) (s : ScenarioOf)
      → Passing whole end final n above ws f slots below s → Grows s final
  grows n above ws f slots below s passing = subst (λ t. Grows s t) passing.ahead (grows_lines whole.heads (places n above (line ws (Says f slots) ∷ below)) s)

  pub so_far_line : (n : ℕ) (above : List TextLine) (ws : List Word) (f : Form) (slots : List Operand) (below : List TextLine) (s : ScenarioOf)
      → Passing whole end final n above ws f slots below s → SoFar final n above s
      → SoFar final (n + 1) (line ws (Says f slots) ∷ above) (put_in (added whole.heads (place_at n above (line ws (Says f slots)) below) f slots) s)
  so_far_line n above ws f slots below s passing h =
      let place : LineInText = place_at n above (line ws (Says f slots)) below in
      let clean = passing.clean in
      let a : Added = added whole.heads place f slots in
      let by_form = told_line whole place f slots clean in
      let fits = alone_fits whole place f slots clean in
      let there = ports_there whole place f slots clean s (length final.setup.ports) h.declared (grows n above ws f slots below s passing).ports in
      record {
        declared = declared_line f a place.above _ s by_form clean.sorts (grown_line whole place f slots clean) h.declared;
        alone = alone_line n a s clean.number fits h.alone;
        entries = entries_line above ws f slots a final s by_form clean.form fits there (order_kept whole place f slots clean) h.entries;
        heads = heads_line whole n above ws f slots below s clean h.heads;
      }

  steps : Steps whole end final (λ n above below s. SoFar final n above s)
  steps = record {
    blank = λ n above ws below s h. so_far_quiet final n above ws Blank s tt h;
    wrong = λ n above ws kind below s h. so_far_quiet final n above ws (Wrong kind) s tt h;
    says = λ n above ws f slots below s passing h. so_far_line n above ws f slots below s passing h;
  }

  pub so_far : (ls : List TextLine) → AllAmong whole ls → first_fault whole.heads (places 1 [] ls) end ≡ None
      → with_lines whole.heads nothing_said (places 1 [] ls) ≡ final → SoFar final (1 + length ls) (passed [] ls) final
  so_far ls among clean ahead = by_lines whole end final (λ n above below s. SoFar final n above s) steps ls 1 [] nothing_said among clean ahead (so_far_nothing final)
