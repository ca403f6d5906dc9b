-- The variables of a process that begins, one argument after the other.
use Rattle.std.proofs.Common.{◌≡◌, ℕ, suc, ◌+◌, ◌-◌, ◌<◌, ◌≤◌, ℤ, pos, List, ◌∷◌, ◌++◌, length, get_or, take, replicate, set, refl, sym, ap, ◌∙◌, arith, add-one}
use Rattle.std.proofs.lemmas.List.{set-append_left, set_at, take_more, length-take-le, append_assoc, replicate-append-replicate}
use Rattle.std.proofs.Math.Nat.{min-le_left}
use Rattle.std.specs.Prelude.{max}
use Rattle.sim_types.specs.Scenarios.{ScenarioOf}
use Rattle.sim_types.specs.declared.script.Kind.{Kind}
use Rattle.sim_script_model.specs.Scripts.{Script, set_variable}
use Rattle.sim_script_model.specs.Needs.{last_variable, last_given_in, most_params}
use Rattle.sim_script.specs.Kept.{script_of_kind, variables_with}

behind_val : (xs : List ℤ) (n : ℕ) (v : ℤ) → set (pos 0 ∷ xs) (n + 1) v ≡ pos 0 ∷ set xs n v
behind_val xs n v = rw (add-one n) refl

-- one argument more is written over the first 0 behind the others
pub written : (args : List ℤ) (most n : ℕ) (variables : List ℤ) (v : ℤ) → n < length args → length args ≤ most
    → variables ≡ pos 0 ∷ take n args ++ replicate (most - n) (pos 0) → v ≡ get_or args n (pos 0)
    → set variables (n + 1) v ≡ pos 0 ∷ take (n + 1) args ++ replicate (most - (n + 1)) (pos 0)
written args most n variables v lt few is same =
    let left : most - n ≡ suc (most - (n + 1)) = omega arith in
    let long : length (take n args) ≡ n = length-take-le n args (omega arith) in
    let put : set (take n args ++ pos 0 ∷ replicate (most - (n + 1)) (pos 0)) n v ≡ take n args ++ v ∷ replicate (most - (n + 1)) (pos 0) = set_at (take n args) (pos 0) (replicate (most - (n + 1)) (pos 0)) v n long in
    let more : take n args ++ v ∷ replicate (most - (n + 1)) (pos 0) ≡ take (n + 1) args ++ replicate (most - (n + 1)) (pos 0) = rw (take_more args n (pos 0) lt, same, append_assoc) refl in
    rw (is, left) (behind_val (take n args ++ pos 0 ∷ replicate (most - (n + 1)) (pos 0)) n v ∙ ap (λ (xs : List ℤ). pos 0 ∷ xs) (put ∙ more))

-- before the first, all variables are 0
pub all_zero : (vs : List ℤ) (m : ℕ) → vs ≡ replicate m (pos 0) → 1 ≤ m → vs ≡ pos 0 ∷ replicate (m - 1) (pos 0)
all_zero vs m is some = let more : m ≡ suc (m - 1) = omega (arith, some) in is ∙ ap (λ (n : ℕ). replicate n (pos 0)) more

-- with those that are not kept, there are 64
pub filled_up : (args : List ℤ) (last : ℕ) → length args ≤ last → last ≤ 63
    → variables_with last (pos 0 ∷ args ++ replicate (last - length args) (pos 0)) ≡ pos 0 ∷ args ++ replicate (63 - length args) (pos 0)
filled_up args last few most =
    let many : last - length args + (63 - last) ≡ 63 - length args = omega arith in
    rw (append_assoc args (replicate (last - length args) (pos 0)) (replicate (63 - last) (pos 0)), replicate-append-replicate (last - length args) (63 - last) (pos 0), many) refl

-- the last variable that is given a value is one of 64
last_within : (x : ScenarioOf) → last_variable x ≤ 63
last_within x = min-le_left 63 (max (most_params x.kinds) (last_given_in x.code))

-- and so at most 64 are kept
pub few_kept : (x : ScenarioOf) (n : ℕ) → n ≡ last_variable x + 1 → n ≤ 64
few_kept x n is = let few = last_within x in omega (arith, few, is)

-- a script as it begins, of what it keeps then
pub begins_with : (s t : Script) (kind : ℕ) (declared : Kind) (args vs : List ℤ) → length args ≤ last_variable s.scenario
    → vs ≡ pos 0 ∷ args ++ replicate (last_variable s.scenario + 1 - 1 - length args) (pos 0)
    → t ≡ record (script_of_kind s.scenario kind declared args) { variables = variables_with (last_variable s.scenario) vs }
    → t ≡ script_of_kind s.scenario kind declared args
begins_with s t kind declared args vs few is at =
    let last : last_variable s.scenario + 1 - 1 ≡ last_variable s.scenario = omega arith in
    let filled = filled_up args (last_variable s.scenario) few (last_within s.scenario) in
    let whole : variables_with (last_variable s.scenario) vs ≡ pos 0 ∷ args ++ replicate (63 - length args) (pos 0) = rw (is, last) filled in
    at ∙ ap (λ (ws : List ℤ). record (script_of_kind s.scenario kind declared args) { variables = ws }) whole

-- a variable that is kept gets a value
pub set_kept : (s t : Script) (last : ℕ) (vs : List ℤ) (i at : ℕ) (w v : ℤ)
    → t ≡ record s { variables = variables_with last (set vs i w) } → s.variables ≡ variables_with last vs → i < length vs
    → i ≡ at → w ≡ v → t ≡ set_variable at v s
set_kept s t last vs i at w v is kept lt same value =
    let whole : variables_with last (set vs i w) ≡ set s.variables at v = rw (kept, ← same, ← value) (sym (set-append_left vs (replicate (63 - last) (pos 0)) i w lt)) in
    is ∙ ap (λ (ws : List ℤ). record s { variables = ws }) whole
