-- What the counts of a run under way keep, so that none of them overflows.
use Rattle.std.specs.Prelude.{◌≡◌, ◌≤◌, ◌*◌, ◌^◌, ◌≤ℤ◌, ◌+ℤ◌, ℕ, ℤ, pos}
use Rattle.sim_types.specs.Scenarios.{ScenarioOf}
use Rattle.sim_types.specs.declared.line.Summary.{Summary}
use Rattle.sim_types.specs.declared.setup.Until.{Until}
use Rattle.sim_kernel.specs.KernelOf.{KernelOf}
use Rattle.sim_script_model.specs.Scripts.{Script}

-- so many units log no more numbers, each of which has 64 bits, and this is their sum
pub record LogsAtMost (units logs : ℕ) (sum : ℤ) : Type 0 where
  pub few : logs ≤ units
  pub low : pos 0 ≤ℤ (sum +ℤ pos (logs * 2 ^ 63))
  pub high : sum ≤ℤ pos (logs * 2 ^ 63)

-- a run of so many units at most comes to this
abbrev pub IsWithin : ℕ → Summary → Type 0
IsWithin limit s = LogsAtMost limit s.logs s.total

-- the kernel is to be stopped so and has made so many units, which are no more than may be made; and no unit logs more than
-- one number
pub record CountsRightly (kernel : KernelOf Script ScenarioOf) (stop : Until) (units limit logs : ℕ) (sum : ℤ) : Type 0 where
  pub until : stop ≡ kernel.parts.setup.until
  pub made : kernel.units ≡ units
  pub within : units ≤ limit
  pub counts : LogsAtMost units logs sum
