-- The parts of a scenario, and the text that it was read from.
use Rattle.std.specs.Prelude.{◌≡◌, ℕ, List, Ok}
use Rattle.sim_types.specs.Scenarios.{ScenarioOf}
use Rattle.sim_types.specs.declared.setup.Setup.{Setup}
use Rattle.sim_types.specs.declared.setup.Arrival.{Arrival}
use Rattle.sim_types.specs.declared.setup.Post.{Post}
use Rattle.sim_types.specs.declared.script.Kind.{Kind}
use Rattle.sim_types.specs.declared.script.Stmt.{Stmt}
use Rattle.sim_language.specs.Reads.{reads}
use Rattle.sim_script_model.specs.Needs as needs

-- the scenario of these parts
abbrev pub of_parts : Setup → ℕ → List (List ℕ) → List Kind → List Stmt → List Arrival → List (List Post) → ScenarioOf
of_parts setup seed port_names kinds code journal posters =
    record {
      setup = setup;
      seed = seed;
      port_names = port_names;
      kinds = kinds;
      code = code;
      journal = journal;
      posters = posters;
    }

-- some text says this scenario
pub record IsRead (s : ScenarioOf) : Type 0 where
  pub text : List ℕ
  pub says : reads text ≡ Ok s

-- the scripts of this scenario need these variables, frames and scopes
pub record HasNeeds (s : ScenarioOf) (last_variable most_frames most_open_scopes : ℕ) : Type 0 where
  pub variable : last_variable ≡ needs.last_variable s
  pub frames : most_frames ≡ needs.most_frames s.code
  pub scopes : most_open_scopes ≡ needs.most_open_scopes s.code
