-- The models, as the machine runs them.
use Rattle.std.proofs.Common.{◌≡◌, ◌<◌, ℕ, [], length, refl, sym, ap, ◌∙◌}
use Rattle.std.proofs.lemmas.List.Elements.{All-nil}
use Rattle.sim_types.specs.Setups.{HavePorts}
use Rattle.sim_types.specs.declared.setup.Setup.{Setup}
use Rattle.sim_models.specs.declared.texts.Model.{Model}
use Rattle.sim_models.specs.declared.texts.Model.TheVariants as model
use Rattle.sim_models.specs.Models.{scenario_of}
use Rattle.sim_script_model.specs.Scenarios.{summary, trace}
use Rattle.sim_trace.specs.Texts.{trace_text}
use Rattle.sim_engine.specs.RunOfScenario.{end_of_scenario, printed_trace}

-- nothing arrives by itself
no_journal : (m : Model) → (scenario_of m).journal ≡ []
no_journal model.Bank = refl
no_journal model.Shop = refl
no_journal model.Wash = refl

pub no_arrivals : (setup : Setup) → HavePorts setup []
no_arrivals setup = All-nil (λ a. a.port < length setup.ports)

-- so the run with the seed of its text and no journal is its own
module _ (m : Model) (limit seed : ℕ) (is : seed ≡ (scenario_of m).seed) where
  pub own_end : (summary (scenario_of m) seed [] limit).end ≡ end_of_scenario (scenario_of m) limit
  own_end =
      ap (λ (n : ℕ). (summary (scenario_of m) n [] limit).end) is
      ∙ ap (λ j. (summary (scenario_of m) (scenario_of m).seed j limit).end) (sym (no_journal m))

  pub own_text : trace_text (scenario_of m).port_names (trace (scenario_of m) seed [] limit) ≡ printed_trace (scenario_of m) limit
  own_text =
      ap (λ (n : ℕ). trace_text (scenario_of m).port_names (trace (scenario_of m) n [] limit)) is
      ∙ ap (λ j. trace_text (scenario_of m).port_names (trace (scenario_of m) (scenario_of m).seed j limit)) (sym (no_journal m))
