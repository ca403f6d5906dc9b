-- Which setups fit a body's code: what a kernel may be opened with.
use Rattle.std.specs.Prelude.{◌≡◌, ◌≤◌, IsTrue, length}
use Rattle.std.specs.List.{AllPass}
use Rattle.sim_types.specs.declared.setup.Setup.{Setup}
use Rattle.sim_types.specs.Setups.{CodeFacts}
pub use Rattle.sim_types.specs.Setups.{is_within, until_fits, most_capacity, most_opening, resource_fits, start_argument_fits, start_arguments_fit, start_fits, takes_one_number, port_fits}

-- a setup that a kernel may be opened with for this code: its events and resources are those of the code, and its numbers
-- are in their ranges
pub record FitsCode (f : CodeFacts) (x : Setup) : Type 0 where
  pub until : IsTrue (until_fits f.named x.until)
  pub events : x.events ≡ f.named
  pub few_events : x.events ≤ 1024
  pub resources : x.resources ≡ f.resources
  pub few_resources : length x.resources ≤ 1024
  pub capacities : AllPass resource_fits x.resources
  pub few_ports : length x.ports ≤ 256
  pub ports : AllPass (port_fits f) x.ports
  pub few_starts : length x.starts ≤ 65536
  pub starts : AllPass (start_fits f) x.starts
