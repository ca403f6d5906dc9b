-- A text without a fault, line by line: what holds before the first line and is kept by each line that is not faulty holds
-- at the end.
use Rattle.std.proofs.Common.{subst, ◌≡◌, refl, sym, ℕ, suc, ◌+◌, List, [], ◌∷◌, length, Option, Some, None, arith}
use Rattle.std.specs.Option.{option_or}
use Rattle.std.proofs.lemmas.Option.{none-some}
use Rattle.sim_types.specs.Scenarios.{ScenarioOf}
use Rattle.sim_types.specs.declared.fault.Fault.{Fault}
use Rattle.sim_types.specs.declared.fault.FaultKind.{FaultKind}
use Rattle.sim_language.specs.AnywhereInText.{ProcessLines}
use Rattle.sim_language.specs.Sayings.{TextLine}
use Rattle.sim_language.specs.Variables.{variables_at}
use Rattle.sim_language.specs.Places.{LineInText, above_of, places}
use Rattle.sim_language.specs.Faults.{fault_at, first_fault, at_line}
use Rattle.sim_language.specs.Reads.{add_said, with_lines}

-- a line at its place
abbrev pub place_at : ℕ → List TextLine → TextLine → List TextLine → LineInText
place_at n above l below = record { number = n; above = above_of above; variables = variables_at (l ∷ above) below; line = l }

-- the lines above once those below are passed, the last first
abbrev pub passed : List TextLine → List TextLine → List TextLine
passed above [] = above
passed above (l ∷ below) = passed (l ∷ above) below

-- neither the line nor one behind it is faulty
pub none_here : (k : Option FaultKind) (n : ℕ) (later : Option Fault) → option_or (at_line n k) later ≡ None → (k ≡ None) × (later ≡ None)
none_here None n later h = (refl, h)
none_here (Some kind) n later h = absurd (none-some _ (sym h))

module _ (heads : ProcessLines) (P : ℕ → List TextLine → List TextLine → ScenarioOf → Type 0) where
  abbrev pub Kept : Type 0
  Kept = (n : ℕ) (above : List TextLine) (l : TextLine) (below : List TextLine) (s : ScenarioOf) → P n above (l ∷ below) s → fault_at heads (place_at n above l below) ≡ None → P (n + 1) (l ∷ above) below (add_said heads (place_at n above l below) l.saying s)

  -- what the walk ends with
  pub record Ends (n : ℕ) (above below : List TextLine) (s : ScenarioOf) (end : Option Fault) : Type 0 where
    pub holds : P (n + length below) (passed above below) [] (with_lines heads s (places n above below))
    pub none : end ≡ None

  walk-nil : (n : ℕ) (above : List TextLine) (s : ScenarioOf) (end : Option Fault) → end ≡ None → P n above [] s → Ends n above [] s end
  walk-nil n above s end clean p = let same : n + 0 ≡ n = omega arith in record { holds = rw same p; none = clean }

  further : (n : ℕ) (above : List TextLine) (l : TextLine) (below : List TextLine) (s t : ScenarioOf) (end : Option Fault)
      → t ≡ add_said heads (place_at n above l below) l.saying s → Ends (n + 1) (l ∷ above) below t end
      → Ends n above (l ∷ below) s end
  further n above l below s t end e ends = let same : n + 1 + length below ≡ n + suc (length below) = omega arith in record { holds = subst (λ m. P m (passed (l ∷ above) below) [] (with_lines heads s (places n above (l ∷ below)))) same (subst (λ u. P (n + 1 + length below) (passed (l ∷ above) below) [] (with_lines heads u (places (n + 1) (l ∷ above) below))) e ends.holds); none = ends.none }

  pub walk : Kept → (below : List TextLine) (n : ℕ) (above : List TextLine) (s : ScenarioOf) (end : Option Fault)
      → first_fault heads (places n above below) end ≡ None → P n above below s → Ends n above below s end
  walk kept [] n above s end clean p = walk-nil n above s end clean p
  walk kept (l ∷ below) n above s end clean p =
      let both : (fault_at heads (place_at n above l below) ≡ None) × (first_fault heads (places (n + 1) (l ∷ above) below) end ≡ None) = none_here (fault_at heads (place_at n above l below)) n (first_fault heads (places (n + 1) (l ∷ above) below) end) clean in
      further n above l below s _ end refl (walk kept below (n + 1) (l ∷ above) (add_said heads (place_at n above l below) l.saying s) end both.1 (kept n above l below s p both.0))
