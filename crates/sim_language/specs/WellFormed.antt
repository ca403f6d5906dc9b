-- What holds of each scenario that is read: what the type of scenarios keeps, and what scripts rest on.
--     is_well_formed s      numbers in their ranges, names in theirs, each variable of its class, blocks closed, `after` never falling
use Rattle.std.specs.Prelude.{ℕ, suc, ◌^◌, Bool, true, false, ◌&&◌, ◌==◌, nat_lt, nat_le, List, [], ◌∷◌, map, length, take}
use Rattle.std.specs.List.{list_all}
use Rattle.std.specs.Cmp.Lexicographic.{pointwise}
use Rattle.sim_types.specs.Scenarios.{ScenarioOf, facts_of}
use Rattle.sim_types.specs.Setups.{until_fits, resource_fits, port_fits, start_fits}
use Rattle.sim_types.specs.declared.setup.Class.{Class}
use Rattle.sim_types.specs.declared.setup.Class.TheVariants as class
use Rattle.sim_types.specs.declared.setup.Arrival.{Arrival}
use Rattle.sim_types.specs.declared.setup.Post.{Post}
use Rattle.sim_types.specs.declared.script.Kind.{Kind}
use Rattle.sim_language.specs.Names.{is_spelled}
use Rattle.sim_language.specs.FittingStatements.{script_fits}
use Rattle.sim_language.specs.FittingBlocks.{code_fits, firsts}

-- ---- the setup, as a kernel may be opened with it

abbrev pub setup_fits : ScenarioOf → Bool
setup_fits s =
    until_fits s.setup.events s.setup.until
    && nat_le s.setup.events 1024
    && nat_le (length s.setup.resources) 1024
    && nat_le (length s.setup.ports) 256
    && nat_le (length s.setup.starts) 65536
    && list_all resource_fits s.setup.resources
    && list_all (port_fits (facts_of s)) s.setup.ports
    && list_all (start_fits (facts_of s)) s.setup.starts

-- ---- the process kinds

-- `val` is a number
abbrev pub kind_fits : Kind → Bool
kind_fits k = nat_le k.params 8 && (length k.classes == 64) && by k.classes
  where
    by : List Class → Bool
    by (class.Number ∷ classes) = true
    by classes = false

-- the kinds stand one behind the other, and each statement fits its kind
abbrev pub kinds_fit : ScenarioOf → Bool
kinds_fit s =
    nat_le (length s.kinds) 256
    && list_all kind_fits s.kinds
    && pointwise (λ m n. m == n) (map (λ k. k.first) s.kinds) (take (length s.kinds) (firsts s.code))
    && (length (firsts s.code) == suc (length s.kinds))
    && list_all (script_fits s) s.kinds

-- ---- journal and posters

abbrev pub arrival_fits : ScenarioOf → Arrival → Bool
arrival_fits s a = nat_le a.after (2 ^ 62) && nat_lt a.poster 16 && nat_lt a.serial 65536 && nat_lt a.port (length s.setup.ports)

abbrev pub never_falls : List Arrival → Bool
never_falls [] = true
never_falls (a ∷ []) = true
never_falls (a ∷ b ∷ more) = nat_le a.after b.after && never_falls (b ∷ more)

abbrev pub post_fits : ScenarioOf → Post → Bool
post_fits s p = nat_lt p.port (length s.setup.ports)

abbrev pub posts_fit : ScenarioOf → Bool
posts_fit s =
    (length s.port_names == length s.setup.ports)
    && list_all is_spelled s.port_names
    && nat_le (length s.journal) 65536
    && list_all (arrival_fits s) s.journal
    && never_falls s.journal
    && nat_le (length s.posters) 16
    && list_all (λ posts. nat_le (length posts) 65536 && list_all (post_fits s) posts) s.posters

-- ---- the whole

abbrev pub is_well_formed : ScenarioOf → Bool
is_well_formed s = nat_lt s.seed (2 ^ 63) && setup_fits s && kinds_fit s && code_fits s.code && posts_fit s
