-- A faultless text, line by line: what holds before the first line, and is kept by each line, holds at the end.
--     AllAmong whole ls      the operands of each line have their shape where this is taken from the text
--     by_lines               the induction, with what each line adds
use Rattle.std.proofs.Common.{subst, ◌≡◌, refl, ℕ, suc, ◌+◌, List, [], ◌∷◌, length, Option, None, arith}
use Rattle.sim_types.specs.Scenarios.{ScenarioOf}
use Rattle.sim_types.specs.declared.fault.Fault.{Fault}
use Rattle.sim_types.specs.declared.fault.FaultKind.{FaultKind}
use Rattle.sim_language.specs.declared.form.Form.{Form}
use Rattle.sim_language.specs.Lines.{Word}
use Rattle.sim_language.specs.Shapes.{Operand}
use Rattle.sim_language.specs.AnywhereInText.{ProcessLines, WholeText}
use Rattle.sim_language.specs.Sayings.{TextLine, Saying, Blank, Wrong, Says}
use Rattle.sim_language.specs.Places.{LineInText, places}
use Rattle.sim_language.specs.Faults.{fault_at, first_fault}
use Rattle.sim_language.specs.Reads.{add_said, with_lines}
use Rattle.sim_language_law.proofs.Lines.Walking.{place_at, passed, none_here}
use Rattle.sim_language_law.proofs.Lines.Faultless.{faultless}
use Rattle.sim_language_law.proofs.Lines.CleanLines.{FitsAmong, CleanLine, clean_line}
use Rattle.sim_language_law.proofs.Lines.Additions.{added, put_in, add_added}

abbrev pub Among : WholeText → Saying → Type 0
Among whole (Says f slots) = FitsAmong whole f slots
Among whole other = Unit {0}

abbrev pub AllAmong : WholeText → List TextLine → Type 0
AllAmong whole [] = Unit {0}
AllAmong whole (l ∷ ls) = Among whole l.saying × AllAmong whole ls

abbrev pub line : List Word → Saying → TextLine
line ws saying = record { words = ws; saying = saying }

clean_at : (whole : WholeText) (n : ℕ) (above : List TextLine) (ws : List Word) (f : Form) (slots : List Operand) (below : List TextLine)
    → FitsAmong whole f slots → fault_at whole.heads (place_at n above (line ws (Says f slots)) below) ≡ None
    → CleanLine whole (place_at n above (line ws (Says f slots)) below) f slots
clean_at whole n above ws f slots below among none =
    let place : LineInText = place_at n above (line ws (Says f slots)) below in clean_line whole place f slots among (faultless whole.heads place f slots none refl)

-- the first line is faultless, and those behind it are
pub first_faultless : (heads : ProcessLines) (end : Option Fault) (n : ℕ) (above : List TextLine) (l : TextLine) (below : List TextLine)
    → first_fault heads (places n above (l ∷ below)) end ≡ None → fault_at heads (place_at n above l below) ≡ None
first_faultless heads end n above l below none = (none_here (fault_at heads (place_at n above l below)) n _ none).0

pub others_clean : (heads : ProcessLines) (end : Option Fault) (n : ℕ) (above : List TextLine) (l : TextLine) (below : List TextLine)
    → first_fault heads (places n above (l ∷ below)) end ≡ None → first_fault heads (places (n + 1) (l ∷ above) below) end ≡ None
others_clean heads end n above l below none = (none_here (fault_at heads (place_at n above l below)) n _ none).1

pub first_clean : (whole : WholeText) (end : Option Fault) (n : ℕ) (above : List TextLine) (ws : List Word) (f : Form) (slots : List Operand)
    → (below : List TextLine) → FitsAmong whole f slots → first_fault whole.heads (places n above (line ws (Says f slots) ∷ below)) end ≡ None
    → CleanLine whole (place_at n above (line ws (Says f slots)) below) f slots
first_clean whole end n above ws f slots below among none = clean_at whole n above ws f slots below among (first_faultless whole.heads end n above (line ws (Says f slots)) below none)

module _ (whole : WholeText) (end : Option Fault) (final : ScenarioOf) where
  -- a line that says a form, with those above and below, where the lines above say s
  pub record Passing (n : ℕ) (above : List TextLine) (ws : List Word) (f : Form) (slots : List Operand) (below : List TextLine) (s : ScenarioOf) : Type 0 where
    pub clean : CleanLine whole (place_at n above (line ws (Says f slots)) below) f slots
    pub later : first_fault whole.heads (places (n + 1) (line ws (Says f slots) ∷ above) below) end ≡ None
    pub ahead : with_lines whole.heads s (places n above (line ws (Says f slots) ∷ below)) ≡ final
    pub among : AllAmong whole below

  module _ (Q : ℕ → List TextLine → List TextLine → ScenarioOf → Type 0) where
    pub record Steps : Type 0 where
      pub blank : (n : ℕ) (above : List TextLine) (ws : List Word) (below : List TextLine) (s : ScenarioOf)
          → Q n above (line ws Blank ∷ below) s → Q (n + 1) (line ws Blank ∷ above) below s
      pub wrong : (n : ℕ) (above : List TextLine) (ws : List Word) (kind : FaultKind) (below : List TextLine) (s : ScenarioOf)
          → Q n above (line ws (Wrong kind) ∷ below) s → Q (n + 1) (line ws (Wrong kind) ∷ above) below s
      pub says : (n : ℕ) (above : List TextLine) (ws : List Word) (f : Form) (slots : List Operand) (below : List TextLine) (s : ScenarioOf)
          → Passing n above ws f slots below s → Q n above (line ws (Says f slots) ∷ below) s
          → Q (n + 1) (line ws (Says f slots) ∷ above) below (put_in (added whole.heads (place_at n above (line ws (Says f slots)) below) f slots) s)

    step : Steps → (n : ℕ) (above : List TextLine) (ws : List Word) (saying : Saying) (below : List TextLine) (s : ScenarioOf) → Among whole saying
        → AllAmong whole below → fault_at whole.heads (place_at n above (line ws saying) below) ≡ None
        → first_fault whole.heads (places (n + 1) (line ws saying ∷ above) below) end ≡ None
        → with_lines whole.heads s (places n above (line ws saying ∷ below)) ≡ final → Q n above (line ws saying ∷ below) s
        → Q (n + 1) (line ws saying ∷ above) below (add_said whole.heads (place_at n above (line ws saying) below) saying s)
    step steps n above ws Blank below s among others none later ahead q = steps.blank n above ws below s q
    step steps n above ws (Wrong kind) below s among others none later ahead q = steps.wrong n above ws kind below s q
    step steps n above ws (Says f slots) below s among others none later ahead q =
        rw add_added (steps.says n above ws f slots below s (record { clean = clean_at whole n above ws f slots below among none; later = later; ahead = ahead; among = others }) q)

    pub by_lines : Steps → (below : List TextLine) (n : ℕ) (above : List TextLine) (s : ScenarioOf) → AllAmong whole below
        → first_fault whole.heads (places n above below) end ≡ None → with_lines whole.heads s (places n above below) ≡ final → Q n above below s
        → Q (n + length below) (passed above below) [] final
    by_lines steps [] n above s among clean ahead q = let same : n + 0 ≡ n = omega arith in rw same (subst (λ t. Q n above [] t) ahead q)
    by_lines steps (l ∷ below) n above s among clean ahead q =
        let both : (fault_at whole.heads (place_at n above l below) ≡ None) × (first_fault whole.heads (places (n + 1) (l ∷ above) below) end ≡ None) = none_here (fault_at whole.heads (place_at n above l below)) n (first_fault whole.heads (places (n + 1) (l ∷ above) below) end) clean in
        let same : n + 1 + length below ≡ n + suc (length below) = omega arith in
        subst (λ m. Q m (passed (l ∷ above) below) [] final) same
        (by_lines steps below (n + 1) (l ∷ above) (add_said whole.heads (place_at n above l below) l.saying s) among.1 both.1 ahead
        (step steps n above l.words l.saying below s among.0 among.1 both.0 both.1 ahead q))
