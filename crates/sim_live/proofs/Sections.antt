-- What the section of a poster has.
--     port_of_section    each of its posts comes in by a port that there is
--     port_to_post       the same of what it has to post
use Rattle.std.proofs.Common.{◌≡◌, ◌<◌, ◌≤◌, ◌^◌, ◌-◌, ℕ, zero, suc, List, [], ◌∷◌, length, Some, subst, arith}
use Rattle.std.specs.Prelude.{slice_get, slice_index_or, All, IsTrue}
use Rattle.std.proofs.lemmas.List.Elements.{All-from_get_or, All-get_or, All-head, All-nil, All-tail}
use Rattle.std.proofs.lemmas.Option.{get_or_from_slice_get, slice_get_within}
use Rattle.sim_types.specs.Scenarios.{ScenarioOf}
use Rattle.sim_types.specs.declared.setup.Post.{Post}
use Rattle.sim_language.specs.WellFormed.{is_well_formed}
use Rattle.sim_language_law.proofs.Scenarios.PostsOfScenarios.{posters_of_scenario}
use Rattle.sim_live.specs.Journals.{section}

pub port_of_section : (s : ScenarioOf) (p i : ℕ) (x : Post) → All (All (λ post. post.port < length s.setup.ports)) s.posters
    → slice_get (section s p) i ≡ Some x → x.port < length s.setup.ports
port_of_section s p i x ports at =
    subst (λ post. post.port < length s.setup.ports) (get_or_from_slice_get (section s p) i x x at)
    (All-get_or (λ post. post.port < length s.setup.ports) (section s p) i x (slice_get_within (section s p) i x at) (section_ports s.posters p ports))
  where
    section_ports : (lists : List (List Post)) (q : ℕ) → All (All (λ post. post.port < length s.setup.ports)) lists
        → All (λ post. post.port < length s.setup.ports) (slice_index_or lists q [])
    section_ports [] q h = All-nil (λ post. post.port < length s.setup.ports)
    section_ports (l ∷ lists) zero h = All-head (All (λ post. post.port < length s.setup.ports)) l lists h
    section_ports (l ∷ lists) (suc q) h = section_ports lists q (All-tail (All (λ post. post.port < length s.setup.ports)) l lists h)

pub port_to_post : (s : ScenarioOf) (p i : ℕ) (item : Post) → IsTrue (is_well_formed s) → slice_get (section s p) i ≡ Some item
    → item.port < length s.setup.ports
port_to_post s p i item well at = port_of_section s p i item (posters_of_scenario s well).ports at

-- ---- an inbox for them

pub few_sections : (s : ScenarioOf) → IsTrue (is_well_formed s) → length s.posters ≤ 16
few_sections s well = (posters_of_scenario s well).few

pub section_length : (s : ScenarioOf) (p : ℕ) → IsTrue (is_well_formed s) → length (section s p) ≤ 65536
section_length s p well = small s.posters p (posters_of_scenario s well).lengths
  where
    small : (lists : List (List Post)) (q : ℕ) → All (λ posts. length posts ≤ 65536) lists → length (slice_index_or lists q []) ≤ 65536
    small [] q h = omega arith
    small (l ∷ lists) zero h = All-head (λ posts. length posts ≤ 65536) l lists h
    small (l ∷ lists) (suc q) h = small lists q (All-tail (λ posts. length posts ≤ 65536) l lists h)

pub sections_small : (s : ScenarioOf) (p : ℕ) → IsTrue (is_well_formed s) → length (section s p) < 2 ^ 32 - 1
sections_small s p well = omega (arith, section_length s p well)

-- whoever has something to post is one of them
pub poster_of_section : (s : ScenarioOf) (p i : ℕ) (x : Post) → slice_get (section s p) i ≡ Some x → p < length s.posters
poster_of_section s p i x at = by s.posters p at
  where
    by : (lists : List (List Post)) (q : ℕ) → slice_get (slice_index_or lists q []) i ≡ Some x → q < length lists
    by [] q there = absurd (omega (arith, slice_get_within [] i x there))
    by (l ∷ lists) zero there = omega arith
    by (l ∷ lists) (suc q) there = omega (arith, by lists q there)

pub each_has_room : (capacities : List ℕ) (n : ℕ) (least : ℕ → ℕ) → length capacities ≡ n
    → ((p : ℕ) → p < n → (0 < slice_index_or capacities p 0) × (least p ≤ slice_index_or capacities p 0)) → All (λ c. 0 < c) capacities
each_has_room capacities n least many each =
    All-from_get_or (λ c. 0 < c) capacities 0 (λ i below. (each i (omega (arith, below, many))).0)
