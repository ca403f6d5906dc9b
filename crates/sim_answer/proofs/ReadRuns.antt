-- Runs of a scenario that a text says.
use Rattle.std.specs.Prelude.{◌≡◌, ℕ, List, Ok}
use Rattle.sim_types.specs.Scenarios.{ScenarioOf}
use Rattle.sim_language.specs.Reads.{reads}
use Rattle.sim_language_law.proofs.Scenarios.PostsOfScenarios.{posts_of_scenario}
use Rattle.sim_language_law.proofs.Scenarios.WellFormedTexts.{read_well_formed}
use Rattle.sim_engine.specs.Throughout.{IsInOrderThroughout}
use Rattle.sim_engine.proofs.InOrder.{in_order}

-- every state of such a run is in order
pub in_order_of : (s : ScenarioOf) (seed limit : ℕ) (text : List ℕ) → reads text ≡ Ok s → IsInOrderThroughout s seed s.journal limit
in_order_of s seed limit text is =
    let well = read_well_formed text s is in in_order s seed s.journal limit well (posts_of_scenario s well).ports
