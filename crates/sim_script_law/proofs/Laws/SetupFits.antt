-- The setup of a scenario that is well-formed fits what its scripts are made for.
use Rattle.std.proofs.Common.{refl}
use Rattle.std.specs.Prelude.{IsTrue}
use Rattle.std.proofs.lemmas.List.Sums.{AllPass-from_list_all}
use Rattle.sim_types.specs.Scenarios.{ScenarioOf, facts_of}
use Rattle.sim_types.specs.Setups.{resource_fits, port_fits, start_fits}
use Rattle.sim_machine.specs.Setups.{FitsCode}
use Rattle.sim_language.specs.WellFormed.{is_well_formed}
use Rattle.sim_script_law.specs.ScriptMembers.{script_facts}
use Rattle.sim_language_law.proofs.Scenarios.WellFormedParts.{fits_well}
use Rattle.sim_language_law.proofs.Scenarios.SetupParts.{fitting_parts}
use Rattle.sim_script_law.proofs.Scripts.Starts.{facts_are}

pub fits_code : (x : ScenarioOf) → IsTrue (is_well_formed x) → FitsCode (script_facts x) x.setup
fits_code x well_formed =
    let parts = fitting_parts x (fits_well x well_formed).setup in
    rw (facts_are x well_formed) (record {
      until = parts.until;
      events = refl;
      few_events = parts.events;
      resources = refl;
      few_resources = parts.resources;
      capacities = AllPass-from_list_all resource_fits x.setup.resources parts.capacities;
      few_ports = parts.ports;
      ports = AllPass-from_list_all (port_fits (facts_of x)) x.setup.ports parts.takers;
      few_starts = parts.starts;
      starts = AllPass-from_list_all (start_fits (facts_of x)) x.setup.starts parts.begin;
    })
