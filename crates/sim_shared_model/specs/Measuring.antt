-- What is measured at the resources (SimPy's count, level and length of items, and the lengths of the queues).
use Rattle.std.specs.Prelude.{◌≡◌, ◌==◌, ℕ, Bool, false, List, length, slice_get, Option}
use Rattle.std.specs.List.{list_any}
use Rattle.std.specs.Option.{option_map}
use Rattle.sim_types.specs.declared.line.Measure.{Measure}
use Rattle.sim_shared_model.specs.AnyShared.{SharedResource}
use Rattle.sim_shared_model.specs.declared.resource.AnyResource.TheVariants.{Desk, Tank, Shelf}
use Rattle.sim_shared_model.specs.Resources.{count_at}
use Rattle.sim_shared_model.specs.SharedOf.{SharedOf}

-- how many requests or puts wait at it, and how many gets
abbrev pub puts_waiting : SharedResource → ℕ
puts_waiting (Desk d) = length d.queue
puts_waiting (Tank t) = length t.puts
puts_waiting (Shelf s) = length s.puts

abbrev pub gets_waiting : SharedResource → ℕ
gets_waiting (Desk d) = 0
gets_waiting (Tank t) = length t.gets
gets_waiting (Shelf s) = length s.gets

-- these, and how much is in use of it, or stands in it
abbrev pub measure_of : SharedResource → Measure
measure_of x = record { puts = puts_waiting x; gets = gets_waiting x; held = count_at x }

-- what is measured at this place, where a resource is
abbrev pub measured : ℕ → SharedOf → Option Measure
measured at h = option_map measure_of (slice_get h.resources at)

-- whether this is one of the places
abbrev pub is_one_of : ℕ → List ℕ → Bool
is_one_of at places = list_any (λ place. place == at) places

-- at each place but these the same is measured as before
pub record ChangesOnlyAt (places : List ℕ) (old new : SharedOf) : Type 0 where
  pub others : (at : ℕ) → is_one_of at places ≡ false → measured at new ≡ measured at old
