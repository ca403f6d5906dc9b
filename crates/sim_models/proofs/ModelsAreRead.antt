-- The text of each model is a scenario, and says this one.
use Rattle.std.proofs.Common.{◌≡◌, refl, Ok}
use Rattle.std.specs.Fmt.{digits}
use Rattle.sim_language.specs.Reads.{reads}
use Rattle.sim_models.specs.Models.{text_of, scenario_of}
use Rattle.sim_models.specs.declared.texts.Model.{Model}
use Rattle.sim_models.specs.declared.texts.Model.TheVariants as model

pub models_are_read : (m : Model) → reads (text_of m) ≡ Ok (scenario_of m)
unfolding digits
models_are_read model.Bank = refl
models_are_read model.Shop = refl
models_are_read model.Wash = refl
