-- The parts of a setup that fits.
use Rattle.std.proofs.Common.{◌≡◌, ◌≤◌, true, length}
use Rattle.std.specs.Prelude.{◌&&◌, nat_le}
use Rattle.std.specs.List.{list_all}
use Rattle.std.proofs.lemmas.Bool.{and_parts, leb-true}
use Rattle.sim_types.specs.Scenarios.{ScenarioOf, facts_of}
use Rattle.sim_types.specs.Setups.{until_fits, resource_fits, port_fits, start_fits}
use Rattle.sim_language.specs.WellFormed.{setup_fits}

pub record HasFittingParts (x : ScenarioOf) : Type 0 where
  pub until : until_fits x.setup.events x.setup.until ≡ true
  pub events : x.setup.events ≤ 1024
  pub resources : length x.setup.resources ≤ 1024
  pub ports : length x.setup.ports ≤ 256
  pub starts : length x.setup.starts ≤ 65536
  pub capacities : list_all resource_fits x.setup.resources ≡ true
  pub takers : list_all (port_fits (facts_of x)) x.setup.ports ≡ true
  pub begin : list_all (start_fits (facts_of x)) x.setup.starts ≡ true

pub fitting_parts : (x : ScenarioOf) → setup_fits x ≡ true → HasFittingParts x
fitting_parts x h =
    let until = until_fits x.setup.events x.setup.until in
    let events = nat_le x.setup.events 1024 in
    let resources = nat_le (length x.setup.resources) 1024 in
    let ports = nat_le (length x.setup.ports) 256 in
    let starts = nat_le (length x.setup.starts) 65536 in
    let capacities = list_all resource_fits x.setup.resources in
    let takers = list_all (port_fits (facts_of x)) x.setup.ports in
    let a = and_parts (until && events && resources && ports && starts && capacities && takers) (list_all (start_fits (facts_of x)) x.setup.starts) h in
    let b = and_parts (until && events && resources && ports && starts && capacities) takers a.0 in
    let d = and_parts (until && events && resources && ports && starts) capacities b.0 in
    let e = and_parts (until && events && resources && ports) starts d.0 in
    let f = and_parts (until && events && resources) ports e.0 in
    let g = and_parts (until && events) resources f.0 in
    let i = and_parts until events g.0 in
    record {
      until = i.0;
      events = leb-true _ _ i.1;
      resources = leb-true _ _ g.1;
      ports = leb-true _ _ f.1;
      starts = leb-true _ _ e.1;
      capacities = d.1;
      takers = b.1;
      begin = a.1;
    }
