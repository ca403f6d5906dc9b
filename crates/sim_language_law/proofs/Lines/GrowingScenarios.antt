-- What lines say only adds to a scenario.
--     Grows s t          t has all events, ports and resources of s
--     grows_lines        so it is for what the lines further down add
use Rattle.std.specs.Prelude.{◌≡◌, ℕ, ◌≤◌, List, [], ◌∷◌, length, Some, option_map, slice_get}
use Rattle.std.proofs.Common.{arith}
use Rattle.std.proofs.lemmas.List.{length_push}
use Rattle.sim_types.specs.Scenarios.{ScenarioOf}
use Rattle.sim_types.specs.declared.setup.ResourceKind.{ResourceKind}
use Rattle.sim_language.specs.AnywhereInText.{ProcessLines}
use Rattle.sim_language.specs.Sayings.{Saying, Blank, Wrong, Says}
use Rattle.sim_language.specs.Places.{LineInText}
use Rattle.sim_language.specs.Reads.{add_said, with_lines}
use Rattle.sim_language_law.proofs.Lines.Additions.{Added, AnEvent, APort, put_in, added, add_added}
use Rattle.sim_language_law.proofs.Names.DeclaredNames.{kind_put}

pub record Grows (s t : ScenarioOf) : Type 0 where
  pub events : s.setup.events ≤ t.setup.events
  pub ports : length s.setup.ports ≤ length t.setup.ports
  pub resources : (i : ℕ) (k : ResourceKind) → option_map (λ r. r.kind) (slice_get s.setup.resources i) ≡ Some k
      → option_map (λ r. r.kind) (slice_get t.setup.resources i) ≡ Some k

grows_same : (s : ScenarioOf) → Grows s s
grows_same s = record { events = omega arith; ports = omega arith; resources = λ i k h. h }

grows_on : (s t u : ScenarioOf) → Grows s t → Grows t u → Grows s u
grows_on s t u g h = record { events = omega arith; ports = omega arith; resources = λ i k e. h.resources i k (g.resources i k e) }

events_put : (a : Added) (s : ScenarioOf) → s.setup.events ≤ (put_in a s).setup.events
events_put AnEvent s = omega arith
events_put a s = omega arith

ports_put : (a : Added) (s : ScenarioOf) → length s.setup.ports ≤ length (put_in a s).setup.ports
ports_put (APort name kind) s = omega (arith, length_push s.setup.ports kind)
ports_put a s = omega arith

pub grows_put : (a : Added) (s : ScenarioOf) → Grows s (put_in a s)
grows_put a s = record { events = events_put a s; ports = ports_put a s; resources = λ i k h. kind_put a s i k h }

grows_said : (heads : ProcessLines) (place : LineInText) (saying : Saying) (s : ScenarioOf) → Grows s (add_said heads place saying s)
grows_said heads place Blank s = grows_same s
grows_said heads place (Wrong kind) s = grows_same s
grows_said heads place (Says f slots) s = rw add_added (grows_put (added heads place f slots) s)

pub grows_lines : (heads : ProcessLines) (places : List LineInText) (s : ScenarioOf) → Grows s (with_lines heads s places)
grows_lines heads [] s = grows_same s
grows_lines heads (place ∷ rest) s = grows_on s (add_said heads place place.line.saying s) (with_lines heads s (place ∷ rest)) (grows_said heads place place.line.saying s) (grows_lines heads rest (add_said heads place place.line.saying s))
