-- Counts of faults, and when a fault may be answered.
use Rattle.std.specs.Prelude.{◌≡◌, ℕ, ◌+◌, ◌-◌, ◌^◌, ◌<◌, ◌≤◌, ◌⊎◌, min, OnErr, OnOk}
use Rattle.std.specs.declared.result.Result.{Result}

-- a count after one fault more; it stands at 2^64 - 1
abbrev pub raised : ℕ → ℕ
raised count = min (count + 1) (2 ^ 64 - 1)

-- a count is greater after a call than before it, or stands at its last value after it
abbrev pub Rose : ℕ → ℕ → Type 0
Rose before after = (before < after) ⊎ (after ≡ 2 ^ 64 - 1)

-- a count never falls, rose where the call failed, and is as before where the call answered Ok
pub record HasCause {T E : Type 0} (before after : ℕ) (result : Result T E) : Type 0 where
  pub never_falls : before ≤ after
  pub failed : OnErr result (Rose before after)
  pub kept : OnOk result (after ≡ before)
