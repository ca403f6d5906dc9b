-- The frames of a script are those of the blocks that are open where it stands.
use Rattle.std.specs.Prelude.{◌≡◌, IsTrue, ℕ, ℤ, Bool, false, List, [], ◌∷◌, nat_abs, pos, slice_index_or, length, ◌<◌}
use Rattle.std.specs.List.{list_any}
use Rattle.sim_types.specs.Scenarios.{ScenarioOf}
use Rattle.sim_types.specs.declared.event.EventId.{EventId}
use Rattle.sim_types.specs.declared.setup.Class.TheVariants as class
use Rattle.sim_types.specs.declared.script.Kind.{Kind}
use Rattle.sim_types.specs.declared.script.Num.{Num}
use Rattle.sim_types.specs.declared.script.Stmt.TheVariants as stmt
use Rattle.sim_language.specs.FittingBlocks.{Open, OpenWith, OpenLoop, OpenRepeat, OpenIf, OpenElse, OpenTry, OpenCatch, is_open_with}
use Rattle.sim_language.specs.FittingStatements.{class_of}
use Rattle.sim_script_model.specs.Scripts.{Frame, InScope, InTry, InLoop, InRepeat, stmt_at}
use Rattle.sim_script_law.specs.Walks.{Walks}

-- whether the variable is that of a `with` that is open
abbrev pub is_held : ℕ → List Open → Bool
is_held v opens = list_any (is_open_with v) opens

-- the scope of a `with` that gave this variable: a statement of the code opened it, the variable holds its request, and no
-- `with` around it has the same variable
pub record IsScope (x : ScenarioOf) (kind : Kind) (variables : List ℤ) (v : ℕ) (e : EventId) (around : List Open) : Type 0 where
  pub place : ℕ
  pub within : place < length x.code
  pub resource : ℕ
  pub priority : Num
  pub preempts : Bool
  pub opened : stmt_at x.code place ≡ stmt.With v resource priority preempts
  pub class : class_of kind v ≡ class.Request
  pub held : nat_abs (slice_index_or variables v (pos 0)) ≡ e.0
  pub fresh : is_held v around ≡ false

-- one frame for each block that is left in a poll of its own, and where it goes on; an `if` has none, nor has what
-- stands behind an `else` or a `catch`
abbrev pub Framed : ScenarioOf → Kind → List ℤ → List Open → List Frame → Type 0
Framed x kind vs [] [] = Unit {0}
Framed x kind vs (OpenWith v ∷ os) (InScope e ∷ fs) = IsScope x kind vs v e os × Framed x kind vs os fs
Framed x kind vs (OpenTry catch ∷ os) (InTry at ∷ fs) = (catch ≡ at) × Walks x kind catch (OpenTry catch ∷ os) × Framed x kind vs os fs
Framed x kind vs (OpenLoop inside past ∷ os) (InLoop at ∷ fs) = (past ≡ at) × Walks x kind inside (OpenLoop inside past ∷ os) × Walks x kind past os × Framed x kind vs os fs
Framed x kind vs (OpenRepeat inside past ∷ os) (InRepeat count at ∷ fs) = (past ≡ at) × Walks x kind inside (OpenRepeat inside past ∷ os) × Walks x kind past os × Framed x kind vs os fs
Framed x kind vs (OpenIf other ∷ os) fs = Framed x kind vs os fs
Framed x kind vs (OpenElse past ∷ os) fs = Framed x kind vs os fs
Framed x kind vs (OpenCatch past ∷ os) fs = Framed x kind vs os fs
Framed x kind vs _ _ = IsTrue false
