-- What is measured at a resource, and what is told of it over a whole run. SimPy's documentation shows how resources are
-- monitored ("Monitoring"); which numbers are told is this project's own.
use Rattle.std.specs.Prelude.{ℕ, ℤ, zero, suc, pos, ◌+ℤ◌, ◌-ℤ◌, ◌*ℤ◌, List, length, max}
use Rattle.std.specs.Int.{int_max, int_min}
use Rattle.sim_types.specs.declared.line.Measure.{Measure}
use Rattle.sim_types.specs.declared.line.WatchRow.{WatchRow}
use Rattle.sim_types.specs.declared.setup.Resource.{Resource}
use Rattle.sim_machine.specs.State.{Facilities}
use Rattle.sim_machine.specs.Users.{put_queue, get_queue}
use Rattle.sim_machine.specs.Requests.{held}

-- how many requests or puts wait at the resource, how many gets, and how much of it is in use, or stands in it
abbrev pub measure_at : List Resource → ℕ → Facilities → Measure
measure_at rs res f =
    record { puts = length (put_queue rs res f.waiters); gets = length (get_queue res f.waiters); held = held rs res f }

-- ---- a number that may change with each unit, by how many units were made

-- its sum over time, by the time after so many units: before each unit what it is then, times the time that passes in that unit
abbrev pub over_time : (ℕ → ℤ) → (ℕ → ℤ) → ℕ → ℤ
over_time time number zero = pos 0
over_time time number (suc k) = over_time time number k +ℤ (number k *ℤ (time (suc k) -ℤ time k))

-- the one of all its values that is picked of each two, as the greatest or the least
abbrev pub over_all : {X : Type 0} → (X → X → X) → (ℕ → X) → ℕ → X
over_all pick number zero = number zero
over_all pick number (suc k) = pick (over_all pick number k) (number (suc k))

-- ---- a resource over a run

-- what is told of what was measured, over so many units
abbrev pub row_of : (ℕ → ℤ) → (ℕ → Measure) → ℕ → WatchRow
row_of time measure k =
    record {
      psum = over_time time (λ i. pos (measure i).puts) k;
      pmost = over_all max (λ i. (measure i).puts) k;
      gsum = over_time time (λ i. pos (measure i).gets) k;
      gmost = over_all max (λ i. (measure i).gets) k;
      hsum = over_time time (λ i. (measure i).held) k;
      hleast = over_all int_min (λ i. (measure i).held) k;
      hmost = over_all int_max (λ i. (measure i).held) k;
    }

-- what is told of the resource over so many units, by the facilities after each number of units
abbrev pub watched : List Resource → ℕ → (ℕ → Facilities) → ℕ → WatchRow
watched rs res after k = row_of (λ i. (after i).calendar.time) (λ i. measure_at rs res (after i)) k
