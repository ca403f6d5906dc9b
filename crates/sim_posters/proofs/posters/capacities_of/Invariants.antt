use Rattle.std.proofs.Common.{◌≡◌, ◌≤◌, ◌<◌, ℕ, length, map, take, get_or, []}
use Rattle.sim_posters.specs.Posters.{capacity_of}
use Rattle.sim_posters.proofs.posters.capacities_of.Given as goal

abbrev pub invariant-loop-section : goal.invariant-loop-section
invariant-loop-section l =
    record {
      exact : l.capacities.items ≡ map capacity_of (take l.section-index l.sections);
      many : length l.capacities.items ≡ l.section-index;
      room : length l.sections ≤ l.capacities.cap;
      each : (p : ℕ) → p < l.section-index
          → (0 < get_or l.capacities.items p 0) × (length (get_or l.sections p []) ≤ get_or l.capacities.items p 0);
    }
