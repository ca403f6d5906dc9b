-- Tables with more names.
use Rattle.std.proofs.Common.{◌≡◌, refl, List, [], ◌∷◌, ◌++◌}
use Rattle.sim_language.specs.Named.{Named, with_one, with_all}

-- more names in two parts
pub with_all_append : {A : Type 0} (known ns ms : List (Named A)) → with_all known (ns ++ ms) ≡ with_all (with_all known ns) ms
with_all_append known [] ms = refl
with_all_append known (n ∷ ns) ms = with_all_append (with_one known n) ns ms
