-- A resource as it is watched, and what it tells of the units of a run that were made.
use Rattle.std.specs.Prelude.{◌≡◌, ◌<◌, ◌+◌, ◌^◌, ◌≤ℤ◌, ◌+ℤ◌, ◌-ℤ◌, ◌*ℤ◌, ℕ, ℤ, pos}
use Rattle.sim_types.specs.Limits.{last_time, most_level}
use Rattle.sim_types.specs.declared.line.Measure.{Measure}
use Rattle.sim_types.specs.declared.line.WatchRow.{WatchRow}
use Rattle.sim_machine.specs.Measures.{row_of}

-- a resource as it is watched: what was measured last, since when, and what is told of it up to then
pub record WatchedOf : Type 0 where
  pub measure : Measure
  pub since : ℤ
  pub row : WatchRow

-- ---- what is told of a run

-- the row, with the time that has passed since then: for so long there was what was measured last
abbrev pub row_at : ℤ → WatchedOf → WatchRow
row_at now w =
    record w.row {
      psum = w.row.psum +ℤ (pos w.measure.puts *ℤ (now -ℤ w.since));
      gsum = w.row.gsum +ℤ (pos w.measure.gets *ℤ (now -ℤ w.since));
      hsum = w.row.hsum +ℤ (w.measure.held *ℤ (now -ℤ w.since));
    }

-- it tells of so many units, where after each number of units it is this time and this is measured
pub record IsWatched (time : ℕ → ℤ) (m : ℕ → Measure) (k : ℕ) (w : WatchedOf) : Type 0 where
  pub measure : w.measure ≡ m k
  pub row : row_at (time k) w ≡ row_of time m k

-- in n units after the first k nothing changes before the last: neither the time nor what is measured
pub record IsSteady (time : ℕ → ℤ) (m : ℕ → Measure) (k n : ℕ) : Type 0 where
  pub same_time : (i : ℕ) → i < n → time (k + i) ≡ time k
  pub same_measure : (i : ℕ) → i < n → m (k + i) ≡ m k

-- ---- the ranges of its numbers

-- by this time a number below 2^64 has no greater sum over time
pub record IsSumWithin (time sum : ℤ) : Type 0 where
  pub low : pos 0 ≤ℤ sum
  pub high : sum ≤ℤ (pos (2 ^ 64) *ℤ time)

-- the time and what is held are in their ranges, and no sum overflows
pub record IsWithin (measure : Measure) (since : ℤ) (row : WatchRow) : Type 0 where
  pub from_0 : pos 0 ≤ℤ since
  pub to_last : since ≤ℤ last_time
  pub held_low : pos 0 ≤ℤ measure.held
  pub held_high : measure.held ≤ℤ most_level
  pub psum : IsSumWithin since row.psum
  pub gsum : IsSumWithin since row.gsum
  pub hsum : IsSumWithin since row.hsum
