-- The setup of the machine shop fits its script, whatever the number of machines is.
use Rattle.std.proofs.Common.{◌≡◌, ◌≤◌, ℕ, pos, true, refl, arith}
use Rattle.std.specs.Prelude.{IsTrue}
use Rattle.std.proofs.lemmas.Bool.Decides.{nat_tests}
use Rattle.sim_types.specs.Setups.{is_within}
use Rattle.sim_types.specs.Limits.{most_slots}
use Rattle.sim_language.specs.WellFormed.{is_well_formed}
use Rattle.sim_machine.specs.Setups.{FitsCode}
use Rattle.sim_script_law.specs.ScriptMembers.{script_facts}
use Rattle.sim_script_law.proofs.Laws.SetupFits.{fits_code}
use Rattle.sim_shop.specs.Shop.{crews_of}
use Rattle.sim_models.specs.Shop.{shop_of}

capacity_fits : (c : ℕ) → 1 ≤ c → c ≤ 201 → is_within (pos 1) most_slots (pos c) ≡ true
capacity_fits c some few = grind (arith, nat_tests, some, few)

some_crews : (n : ℕ) → 1 ≤ crews_of n
some_crews n = omega arith

few_crews : (n : ℕ) → n ≤ 2000 → crews_of n ≤ 201
few_crews n few = omega (arith, few)

well_formed : (n : ℕ) → n ≤ 2000 → IsTrue (is_well_formed (shop_of n))
well_formed n few = rw (capacity_fits (crews_of n) (some_crews n) (few_crews n few)) refl

pub shop_fits : (n : ℕ) → n ≤ 2000 → FitsCode (script_facts (shop_of n)) (shop_of n).setup
shop_fits n few = fits_code (shop_of n) (well_formed n few)
