-- What a script begins with.
use Rattle.std.proofs.Common.{◌≡◌, ℕ, zero, suc, ◌<◌, ℤ, List, [], ◌∷◌, length, get_or, refl, arith}
use Rattle.sim_types.specs.Scenarios.{ScenarioOf}
use Rattle.sim_types.specs.declared.script.Kind.{Kind}
use Rattle.sim_script_model.specs.Scripts.{classes_at, first_place}
use Rattle.sim_script_law.specs.ScriptMembers.{begun_script}
use Rattle.sim_script.specs.Kept.{script_of_kind}

read_classes : (kinds : List Kind) (k : ℕ) (d : Kind) → k < length kinds → classes_at kinds k ≡ (get_or kinds k d).classes
read_classes [] k d lt = absurd (omega arith)
read_classes (m ∷ kinds) zero d lt = refl
read_classes (m ∷ kinds) (suc k) d lt = read_classes kinds k d (omega arith)

read_first : (kinds : List Kind) (k : ℕ) (d : Kind) → k < length kinds → first_place kinds k ≡ (get_or kinds k d).first
read_first [] k d lt = absurd (omega arith)
read_first (m ∷ kinds) zero d lt = refl
read_first (m ∷ kinds) (suc k) d lt = read_first kinds k d (omega arith)

-- the script of a kind
pub begun : (x : ScenarioOf) (k : ℕ) (args : List ℤ) (kind : Kind) → k < length x.kinds → kind ≡ get_or x.kinds k kind
    → script_of_kind x k kind args ≡ begun_script x k args
begun x k args kind lt is = rw (read_classes x.kinds k kind lt, read_first x.kinds k kind lt, ← is) refl
