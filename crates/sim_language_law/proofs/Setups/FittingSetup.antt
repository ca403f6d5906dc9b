-- The setup and the kinds of a faultless text fit, as far as they fit by themselves.
--     Alone n s                    so it is for the scenario s that the lines in front of line n say
--     alone_nothing, alone_line    at the start, and behind each line
use Rattle.std.specs.Prelude.{◌≡◌, refl, ℕ, ◌+◌, ◌≤◌, ◌<◌, ◌^◌, Bool, true, false, ◌&&◌, ◌==◌, nat_le, nat_lt, List, [], ◌∷◌, ◌++◌, length}
use Rattle.std.specs.List.{list_all}
use Rattle.std.proofs.Common.{arith}
use Rattle.std.proofs.lemmas.Bool.{ltb-false, leb-true, and_parts}
use Rattle.std.proofs.lemmas.List.{length_push}
use Rattle.std.proofs.lemmas.List.Folds.{list_all-append}
use Rattle.sim_types.specs.Scenarios.{ScenarioOf}
use Rattle.sim_types.specs.Setups.{resource_fits}
use Rattle.sim_types.specs.declared.script.Kind.{Kind}
use Rattle.sim_language.specs.Names.{is_spelled}
use Rattle.sim_language.specs.Reads.{nothing_said}
use Rattle.sim_language.specs.WellFormed.{kind_fits}
use Rattle.sim_language_law.proofs.Lines.Additions.{Added, TheSeed, AResource, APort, AKind, AStart, put_in}
use Rattle.sim_language_law.proofs.Setups.FittingAdditions.{FitsAlone}

pub list_all_push : {X : Type 0} (test : X → Bool) (xs : List X) (x : X) → list_all test xs ≡ true → test x ≡ true → list_all test (xs ++ x ∷ []) ≡ true
list_all_push test xs x h e = rw (list_all-append test xs (x ∷ []), h, e) refl

pub record Alone (n : ℕ) (s : ScenarioOf) : Type 0 where
  pub seed : nat_lt s.seed (2 ^ 63) ≡ true
  pub resources : list_all resource_fits s.setup.resources ≡ true
  pub kinds : list_all kind_fits s.kinds ≡ true
  pub names : list_all is_spelled s.port_names ≡ true
  pub named : length s.port_names ≡ length s.setup.ports
  pub starts : length s.setup.starts < n
  pub few : length s.setup.starts ≤ 65536

pub alone_nothing : Alone 1 nothing_said
alone_nothing = record { seed = refl; resources = refl; kinds = refl; names = refl; named = refl; starts = omega arith; few = omega arith }

pub alone_later : (n : ℕ) (s : ScenarioOf) → Alone n s → Alone (n + 1) s
alone_later n s h = record { seed = h.seed; resources = h.resources; kinds = h.kinds; names = h.names; named = h.named; starts = omega arith; few = h.few }

-- ---- one thing more

seed_put : (a : Added) (s : ScenarioOf) → FitsAlone a → nat_lt s.seed (2 ^ 63) ≡ true → nat_lt (put_in a s).seed (2 ^ 63) ≡ true
seed_put (TheSeed n) s fits h = fits
seed_put a s fits h = h

resources_put : (a : Added) (s : ScenarioOf) → FitsAlone a → list_all resource_fits s.setup.resources ≡ true
    → list_all resource_fits (put_in a s).setup.resources ≡ true
resources_put (AResource kind c o) s fits h = list_all_push resource_fits s.setup.resources (record { kind = kind; capacity = c; opening = o }) h fits
resources_put a s fits h = h

kinds_put : (a : Added) (s : ScenarioOf) → FitsAlone a → list_all kind_fits s.kinds ≡ true → list_all kind_fits (put_in a s).kinds ≡ true
kinds_put (AKind kind) s fits h = list_all_push kind_fits s.kinds kind h fits
kinds_put a s fits h = h

names_put : (a : Added) (s : ScenarioOf) → FitsAlone a → list_all is_spelled s.port_names ≡ true → list_all is_spelled (put_in a s).port_names ≡ true
names_put (APort name kind) s fits h = list_all_push is_spelled s.port_names name h fits
names_put a s fits h = h

named_put : (a : Added) (s : ScenarioOf) → length s.port_names ≡ length s.setup.ports → length (put_in a s).port_names ≡ length (put_in a s).setup.ports
named_put (APort name kind) s h = omega (arith, length_push s.port_names name, length_push s.setup.ports kind)
named_put a s h = h

starts_put : (a : Added) (s : ScenarioOf) → length (put_in a s).setup.starts ≤ length s.setup.starts + 1
starts_put (AStart kind args) s = omega (arith, length_push s.setup.starts (record { kind = kind; args = args }))
starts_put a s = omega arith

pub alone_line : (n : ℕ) (a : Added) (s : ScenarioOf) → nat_lt 65536 n ≡ false → FitsAlone a → Alone n s → Alone (n + 1) (put_in a s)
alone_line n a s low fits h =
    let most = ltb-false 65536 n low in
    let more = starts_put a s in
    record {
      seed = seed_put a s fits h.seed;
      resources = resources_put a s fits h.resources;
      kinds = kinds_put a s fits h.kinds;
      names = names_put a s fits h.names;
      named = named_put a s h.named;
      starts = omega arith;
      few = omega arith;
    }

-- a kind that fits has no more than 8 parameters
pub kind_params : (k : Kind) → kind_fits k ≡ true → k.params ≤ 8
kind_params k h = by (and_parts (nat_le k.params 8 && (length k.classes == 64)) _ h)
  where
    by : {b : Bool} → ((nat_le k.params 8 && (length k.classes == 64)) ≡ true) × (b ≡ true) → k.params ≤ 8
    by parts = leb-true k.params 8 (and_parts (nat_le k.params 8) (length k.classes == 64) parts.0).0
