use Rattle.std.proofs.Common.{◌≡◌, ◌∷◌, ◌++◌, take, map, replicate}
use Rattle.sim_types.specs.declared.setup.Class.TheVariants as class
use Rattle.sim_code.proofs.draft.classes_of.Given as goal

abbrev pub invariant-loop-place : goal.invariant-loop-place
invariant-loop-place l = l.classes ≡ take 64 (class.Number ∷ take l.place (map (λ v. v.value) l.variables) ++ replicate 64 class.Number)
