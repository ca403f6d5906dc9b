-- Whether a setup fits a body's code, by a test that is computed.
use Rattle.std.proofs.Common.{◌≡◌, Bool, true, false, IsTrue, refl, List, [], ◌∷◌, length, int_eq}
use Rattle.std.specs.Prelude.{◌&&◌, ◌==◌, nat_le}
use Rattle.std.specs.List.{list_all}
use Rattle.std.proofs.lemmas.Bool.{and_parts, eqb-true, leb-true}
use Rattle.std.proofs.lemmas.Bool.Decides.{Decides-int_eq}
use Rattle.std.proofs.lemmas.List.Sums.{AllPass-from_list_all}
use Rattle.sim_types.specs.declared.setup.Resource.{Resource}
use Rattle.sim_types.specs.declared.setup.ResourceKind.{ResourceKind}
use Rattle.sim_types.specs.declared.setup.ResourceKind.TheVariants as resource
use Rattle.sim_types.specs.declared.setup.Setup.{Setup}
use Rattle.sim_types.specs.Setups.{CodeFacts}
use Rattle.sim_machine.specs.Setups.{FitsCode, port_fits, resource_fits, start_fits, until_fits}

-- ---- whether two lists of resources are alike

abbrev pub same_kind : ResourceKind → ResourceKind → Bool
same_kind resource.Plain resource.Plain = true
same_kind resource.Priority resource.Priority = true
same_kind resource.Preemptive resource.Preemptive = true
same_kind resource.Container resource.Container = true
same_kind resource.Store resource.Store = true
same_kind resource.PStore resource.PStore = true
same_kind resource.FStore resource.FStore = true
same_kind _ _ = false

same_kind-yes : (a b : ResourceKind) → same_kind a b ≡ true → a ≡ b
same_kind-yes resource.Plain resource.Plain h = refl
same_kind-yes resource.Priority resource.Priority h = refl
same_kind-yes resource.Preemptive resource.Preemptive h = refl
same_kind-yes resource.Container resource.Container h = refl
same_kind-yes resource.Store resource.Store h = refl
same_kind-yes resource.PStore resource.PStore h = refl
same_kind-yes resource.FStore resource.FStore h = refl
same_kind-yes _ _ h = absurd (cc)

abbrev pub same_resource : Resource → Resource → Bool
same_resource r s = same_kind r.kind s.kind && int_eq r.capacity s.capacity && int_eq r.opening s.opening

same_resource-yes : (r s : Resource) → same_resource r s ≡ true → r ≡ s
same_resource-yes r s h =
    let a = and_parts (same_kind r.kind s.kind && int_eq r.capacity s.capacity) (int_eq r.opening s.opening) h in
    let b = and_parts (same_kind r.kind s.kind) (int_eq r.capacity s.capacity) a.0 in
    let kind = same_kind-yes r.kind s.kind b.0 in
    let capacity = (Decides-int_eq r.capacity s.capacity).0 b.1 in
    let opening = (Decides-int_eq r.opening s.opening).0 a.1 in
    rw (kind, capacity, opening) refl

abbrev pub same_resources : List Resource → List Resource → Bool
same_resources [] [] = true
same_resources (r ∷ rs) (s ∷ ss) = same_resource r s && same_resources rs ss
same_resources _ _ = false

same_resources-yes : (rs ss : List Resource) → same_resources rs ss ≡ true → rs ≡ ss
same_resources-yes [] [] h = refl
same_resources-yes (r ∷ rs) (s ∷ ss) h =
    let a = and_parts (same_resource r s) (same_resources rs ss) h in
    let first = same_resource-yes r s a.0 in
    let rest = same_resources-yes rs ss a.1 in
    cc
same_resources-yes _ _ h = absurd (cc)

-- ---- whether a setup fits

abbrev pub events_fit : CodeFacts → Setup → Bool
events_fit f x = until_fits f.named x.until && (x.events == f.named) && nat_le x.events 1024

abbrev pub resources_fit : CodeFacts → Setup → Bool
resources_fit f x = same_resources x.resources f.resources && nat_le (length x.resources) 1024 && list_all resource_fits x.resources

abbrev pub ports_fit : CodeFacts → Setup → Bool
ports_fit f x = nat_le (length x.ports) 256 && list_all (port_fits f) x.ports

abbrev pub starts_fit : CodeFacts → Setup → Bool
starts_fit f x = nat_le (length x.starts) 65536 && list_all (start_fits f) x.starts

abbrev pub fits : CodeFacts → Setup → Bool
fits f x = events_fit f x && resources_fit f x && ports_fit f x && starts_fit f x

-- where all numbers of a setup are known, `refl` proves the test
pub fits_by : (f : CodeFacts) (x : Setup) → IsTrue (fits f x) → FitsCode f x
fits_by f x h =
    let a = and_parts (events_fit f x && resources_fit f x && ports_fit f x) (starts_fit f x) h in
    let b = and_parts (events_fit f x && resources_fit f x) (ports_fit f x) a.0 in
    let c = and_parts (events_fit f x) (resources_fit f x) b.0 in
    let d = and_parts (until_fits f.named x.until && (x.events == f.named)) (nat_le x.events 1024) c.0 in
    let e = and_parts (until_fits f.named x.until) (x.events == f.named) d.0 in
    let i = and_parts (same_resources x.resources f.resources && nat_le (length x.resources) 1024) (list_all resource_fits x.resources) c.1 in
    let j = and_parts (same_resources x.resources f.resources) (nat_le (length x.resources) 1024) i.0 in
    let k = and_parts (nat_le (length x.ports) 256) (list_all (port_fits f) x.ports) b.1 in
    let l = and_parts (nat_le (length x.starts) 65536) (list_all (start_fits f) x.starts) a.1 in
    record {
      until = e.0;
      events = eqb-true x.events f.named e.1;
      few_events = leb-true x.events 1024 d.1;
      resources = same_resources-yes x.resources f.resources j.0;
      few_resources = leb-true (length x.resources) 1024 j.1;
      capacities = AllPass-from_list_all resource_fits x.resources i.1;
      few_ports = leb-true (length x.ports) 256 k.0;
      ports = AllPass-from_list_all (port_fits f) x.ports k.1;
      few_starts = leb-true (length x.starts) 65536 l.0;
      starts = AllPass-from_list_all (start_fits f) x.starts l.1;
    }
