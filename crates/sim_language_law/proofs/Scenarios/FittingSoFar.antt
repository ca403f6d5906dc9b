-- Behind each line of a faultless text, what is said so far fits in the whole scenario.
--     Beyond whole final n above below s      the end of a run, ports, starts and statements so far fit
--     beyond_at_end                           they do at the end of the text
use Rattle.std.specs.Prelude.{◌≡◌, refl, ℕ, ◌+◌, Bool, true, false, List, [], ◌∷◌, ◌++◌, length, Option, None, is_some}
use Rattle.std.specs.List.{list_all}
use Rattle.std.proofs.Common.{arith, sym, ◌∙◌, subst}
use Rattle.std.proofs.lemmas.Bool.{or_parts}
use Rattle.std.proofs.lemmas.List.{append_assoc}
use Rattle.sim_types.specs.Scenarios.{ScenarioOf, facts_of}
use Rattle.sim_types.specs.declared.fault.Fault.{Fault}
use Rattle.sim_types.specs.declared.script.Kind.{Kind}
use Rattle.sim_language.specs.declared.form.Form.{Form}
use Rattle.sim_language.specs.declared.form.Form.TheVariants as form
use Rattle.sim_language.specs.declared.form.Sort.TheVariants as sort
use Rattle.sim_language.specs.Lines.{Word}
use Rattle.sim_language.specs.Named.{is_named}
use Rattle.sim_language.specs.Forms.{is_statement, is_process}
use Rattle.sim_language.specs.Shapes.{Operand, Context}
use Rattle.sim_language.specs.AnywhereInText.{WholeText}
use Rattle.sim_language.specs.Sayings.{TextLine, Blank, Wrong, Says}
use Rattle.sim_language.specs.Declarations.{declared}
use Rattle.sim_language.specs.Blocks.{open_blocks}
use Rattle.sim_language.specs.Variables.{variables_at}
use Rattle.sim_language.specs.Places.{LineInText, places}
use Rattle.sim_language.specs.Faults.{first_fault}
use Rattle.sim_language.specs.Reads.{nothing_said, with_lines, kind_of}
use Rattle.sim_types.specs.Setups.{until_fits, port_fits, start_fits}
use Rattle.sim_language_law.proofs.Lines.Walking.{place_at, passed}
use Rattle.sim_language_law.proofs.Lines.CleanLines.{CleanLine, of_shape}
use Rattle.sim_language_law.proofs.Lines.LineByLine.{line, AllAmong, Passing, Steps, by_lines}
use Rattle.sim_language_law.proofs.Lines.Additions.{Added, TheUntil, APort, AKind, AStart, put_in, added}
use Rattle.sim_language_law.proofs.Setups.FittingSetup.{list_all_push}
use Rattle.sim_language_law.proofs.Names.NamedLists.{named_kept}
use Rattle.sim_language_law.proofs.Lines.GrowingScenarios.{Grows}
use Rattle.sim_language_law.proofs.Anywhere.SaidAnywhere.{head_said, heads_said}
use Rattle.sim_language_law.proofs.Anywhere.EventsAhead.{AreThere}
use Rattle.sim_language_law.proofs.Processes.ProcessHeads.{heads_above}
use Rattle.sim_language_law.proofs.Processes.KindsOfHeads.{KindsFit}
use Rattle.sim_language_law.proofs.Lines.LinesSoFar.{SoFar, so_far_nothing, so_far_quiet, so_far_line, grows}
use Rattle.sim_language_law.proofs.Setups.FittingInWhole.{Ground, FitsInWhole, fits_in_whole}
use Rattle.sim_language_law.proofs.Processes.ProcessVariables.{process_variables}
use Rattle.sim_language_law.proofs.Processes.CodeOfKinds.{fits_from, is_closed, begun_fits}
use Rattle.sim_language_law.proofs.Processes.ProcessesSoFar.{Standing, Processes, processes_blank, processes_wrong, processes_statement, processes_other, is_none_by}

-- ---- what a line may count on

pub ground_line : (whole : WholeText) (final : ScenarioOf) (n : ℕ) (above : List TextLine) (l : TextLine) (below : List TextLine) (s : ScenarioOf)
    → KindsFit whole.heads final → AreThere whole final → whole.heads ≡ heads_above above ++ heads_said (l ∷ below) → SoFar final n above s → Grows s final
    → Ground whole final (place_at n above l below)
ground_line whole final n above l below s kinds ahead split h g = record {
  kinds = kinds;
  ahead = ahead;
  processes = λ w d e sorted. subst (λ hs. is_named w hs ≡ true) (sym split) (named_kept w (heads_above above) (heads_said (l ∷ below)) (h.heads.processes w d e sorted));
  events = λ w d e sorted. let few = h.declared.numbers w d sort.Event e sorted in let all = h.declared.sizes sort.Event in let more = g.events in omega arith;
  resources = λ w d e sorted. g.resources d.number _ (h.declared.kinds w d e sorted);
}

-- ---- a process that begins

processes_process : (whole : WholeText) (end : Option Fault) (final : ScenarioOf) (n : ℕ) (above : List TextLine) (ws : List Word) (slots : List Operand)
    → (below : List TextLine) (s : ScenarioOf) → Passing whole end final n above ws form.Process slots below s
    → Processes final above (line ws (Says form.Process slots) ∷ below) s
    → let kind : Kind = kind_of (place_at n above (line ws (Says form.Process slots)) below) slots in
    Processes final (line ws (Says form.Process slots) ∷ above) below (put_in (AKind kind) s)
processes_process whole end final n above ws slots below s passing h = record {
  code = h.code;
  fits = list_all_push (fits_from final s.code) s.kinds kind h.fits (begun_fits final s.code kind h.code);
  standing = record {
    front = s.kinds;
    kind = kind;
    kinds = refl;
    closed = closed;
    within = let same = h.code in omega arith;
    classes = refl;
    variables = process_variables whole end n above ws slots below passing.among passing.later passing.clean;
  };
}
  where
    kind : Kind
    kind = kind_of (place_at n above (line ws (Says form.Process slots)) below) slots

    closed : list_all (is_closed s.code) s.kinds ≡ true
    closed = subst (λ o. Standing o s.kinds s.code (variables_at above (line ws (Says form.Process slots) ∷ below)) (declared above)) (is_none_by (open_blocks above) (or_parts (is_some (open_blocks above)) _ passing.clean.placed).0) h.standing

-- ---- the end of a run, ports and starts

until_put : (final : ScenarioOf) (a : Added) (s : ScenarioOf) → FitsInWhole final a → until_fits final.setup.events s.setup.until ≡ true
    → until_fits final.setup.events (put_in a s).setup.until ≡ true
until_put final (TheUntil u) s fits h = fits
until_put final a s fits h = h

ports_put : (final : ScenarioOf) (a : Added) (s : ScenarioOf) → FitsInWhole final a → list_all (port_fits (facts_of final)) s.setup.ports ≡ true
    → list_all (port_fits (facts_of final)) (put_in a s).setup.ports ≡ true
ports_put final (APort name kind) s fits h = list_all_push (port_fits (facts_of final)) s.setup.ports kind h fits
ports_put final a s fits h = h

starts_put : (final : ScenarioOf) (a : Added) (s : ScenarioOf) → FitsInWhole final a → list_all (start_fits (facts_of final)) s.setup.starts ≡ true
    → list_all (start_fits (facts_of final)) (put_in a s).setup.starts ≡ true
starts_put final (AStart kind args) s fits h = list_all_push (start_fits (facts_of final)) s.setup.starts (record { kind = kind; args = args }) h fits
starts_put final a s fits h = h

-- ---- the whole

pub record Beyond (whole : WholeText) (final : ScenarioOf) (n : ℕ) (above below : List TextLine) (s : ScenarioOf) : Type 0 where
  pub so_far : SoFar final n above s
  pub split : whole.heads ≡ heads_above above ++ heads_said below
  pub until : until_fits final.setup.events s.setup.until ≡ true
  pub ports : list_all (port_fits (facts_of final)) s.setup.ports ≡ true
  pub starts : list_all (start_fits (facts_of final)) s.setup.starts ≡ true
  pub processes : Processes final above below s

module _ (whole : WholeText) (end : Option Fault) (final : ScenarioOf) (kinds : KindsFit whole.heads final) (there : AreThere whole final) where
  abbrev B : ℕ → List TextLine → List TextLine → ScenarioOf → Type 0
  B n above below s = Beyond whole final n above below s

  next_split : (above : List TextLine) (l : TextLine) (below : List TextLine) → whole.heads ≡ heads_above above ++ heads_said (l ∷ below)
      → whole.heads ≡ heads_above (l ∷ above) ++ heads_said below
  next_split above l below h = h ∙ sym (append_assoc (heads_above above) (head_said l.saying) (heads_said below))

  statement_or_other : (n : ℕ) (above : List TextLine) (ws : List Word) (f : Form) (slots : List Operand) (below : List TextLine) (s : ScenarioOf)
      → Passing whole end final n above ws f slots below s → Ground whole final (place_at n above (line ws (Says f slots)) below) → is_process f ≡ false
      → Processes final above (line ws (Says f slots) ∷ below) s
      → Processes final (line ws (Says f slots) ∷ above) below (put_in (added whole.heads (place_at n above (line ws (Says f slots)) below) f slots) s)
  statement_or_other n above ws f slots below s passing ground other h = by (is_statement f) refl
    where
      by : (b : Bool) → is_statement f ≡ b
          → Processes final (line ws (Says f slots) ∷ above) below (put_in (added whole.heads (place_at n above (line ws (Says f slots)) below) f slots) s)
      by true is = processes_statement whole final n above ws f slots below s passing.clean ground is h
      by false is = processes_other whole final n above ws f slots below s passing.clean is other h

  processes_line : (n : ℕ) (above : List TextLine) (ws : List Word) (f : Form) (slots : List Operand) (below : List TextLine) (s : ScenarioOf)
      → Passing whole end final n above ws f slots below s → Ground whole final (place_at n above (line ws (Says f slots)) below)
      → Processes final above (line ws (Says f slots) ∷ below) s
      → Processes final (line ws (Says f slots) ∷ above) below (put_in (added whole.heads (place_at n above (line ws (Says f slots)) below) f slots) s)
  processes_line n above ws form.Process slots below s passing ground h = processes_process whole end final n above ws slots below s passing h
  processes_line n above ws f slots below s passing ground h = statement_or_other n above ws f slots below s passing ground refl h

  beyond_line : (n : ℕ) (above : List TextLine) (ws : List Word) (f : Form) (slots : List Operand) (below : List TextLine) (s : ScenarioOf)
      → Passing whole end final n above ws f slots below s → B n above (line ws (Says f slots) ∷ below) s
      → B (n + 1) (line ws (Says f slots) ∷ above) below (put_in (added whole.heads (place_at n above (line ws (Says f slots)) below) f slots) s)
  beyond_line n above ws f slots below s passing h =
      let place : LineInText = place_at n above (line ws (Says f slots)) below in
      let clean = passing.clean in
      let context : Context = clean.fits.fits.context in
      let more : Grows s final = grows whole end final n above ws f slots below s passing in
      let ground = ground_line whole final n above (line ws (Says f slots)) below s kinds there h.split h.so_far more in
      let fits : FitsInWhole final (added whole.heads place f slots) = of_shape whole place f slots clean
      (λ ss. CleanLine whole place f ss → context.whole ≡ whole → Ground whole final place → FitsInWhole final (added whole.heads place f ss))
      (fits_in_whole context whole final place f) clean clean.fits.among ground in
      record {
        so_far = so_far_line whole end final n above ws f slots below s passing h.so_far;
        split = next_split above (line ws (Says f slots)) below h.split;
        until = until_put final (added whole.heads place f slots) s fits h.until;
        ports = ports_put final (added whole.heads place f slots) s fits h.ports;
        starts = starts_put final (added whole.heads place f slots) s fits h.starts;
        processes = processes_line n above ws f slots below s passing ground h.processes;
      }

  steps : Steps whole end final B
  steps = record {
    blank = λ n above ws below s h. record { so_far = so_far_quiet final n above ws Blank s tt h.so_far; split = next_split above (line ws Blank) below h.split; until = h.until; ports = h.ports; starts = h.starts; processes = processes_blank final above ws below s h.processes };
    wrong = λ n above ws kind below s h. record { so_far = so_far_quiet final n above ws (Wrong kind) s tt h.so_far; split = next_split above (line ws (Wrong kind)) below h.split; until = h.until; ports = h.ports; starts = h.starts; processes = processes_wrong final above ws kind below s h.processes };
    says = beyond_line;
  }

  pub beyond_at_end : (ls : List TextLine) → whole.heads ≡ heads_said ls → AllAmong whole ls → first_fault whole.heads (places 1 [] ls) end ≡ None
      → with_lines whole.heads nothing_said (places 1 [] ls) ≡ final → Beyond whole final (1 + length ls) (passed [] ls) [] final
  beyond_at_end ls heads_here among clean ahead = by_lines whole end final B steps ls 1 [] nothing_said among clean ahead
      (record {
        so_far = so_far_nothing final;
        split = heads_here;
        until = refl;
        ports = refl;
        starts = refl;
        processes = record { code = refl; fits = refl; standing = refl };
      })
