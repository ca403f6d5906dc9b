-- What a text says is well-formed.
use Rattle.std.proofs.Common.{◌≡◌, subst}
use Rattle.std.specs.Prelude.{IsTrue}
use Rattle.sim_types.specs.Scenarios.{ScenarioOf}
use Rattle.sim_language.specs.WellFormed.{is_well_formed}
use Rattle.sim_language_law.proofs.Scenarios.WellFormedTexts.{read_well_formed}
use Rattle.sim_scenario.specs.Parts.{IsRead}

module _ (parts s : ScenarioOf) (same : parts ≡ s) (read : IsRead parts) where
  pub well_formed_as_read : IsTrue (is_well_formed s)
  well_formed_as_read = subst (λ t. IsTrue (is_well_formed t)) same (read_well_formed read.text parts read.says)
