-- The three models: the text of each, and what it says.
use Rattle.std.specs.Prelude.{List, ℕ}
use Rattle.sim_types.specs.Scenarios.{ScenarioOf}
use Rattle.sim_shop.specs.Shop.{shop_text, text_of_lines}
use Rattle.sim_models.specs.Bank.{bank, bank_lines}
use Rattle.sim_models.specs.Shop.{shop_of}
use Rattle.sim_models.specs.Wash.{wash, wash_lines}
use Rattle.sim_models.specs.declared.texts.Model.{Model}
use Rattle.sim_models.specs.declared.texts.Model.TheVariants as model

-- the text; the shop has five machines
abbrev pub text_of : Model → List ℕ
text_of model.Bank = text_of_lines bank_lines
text_of model.Shop = shop_text 5
text_of model.Wash = text_of_lines wash_lines

-- the scenario that it says
abbrev pub scenario_of : Model → ScenarioOf
scenario_of model.Bank = bank
scenario_of model.Shop = shop_of 5
scenario_of model.Wash = wash
