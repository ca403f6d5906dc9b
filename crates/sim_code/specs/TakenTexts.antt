-- The bytes that a call takes to read a text.
use Rattle.std.specs.Prelude.{◌≡◌, ℕ, ◌+◌, List, drop, Option, Some, None}
use Rattle.sim_types.specs.Limits.{most_bytes}

-- the bytes left were taken to their end, or one byte more than a text may have, where the source tells its bytes
abbrev pub ReadsWhole : Option (List ℕ) → Option (List ℕ) → Type 0
ReadsWhole None after = Unit {0}
ReadsWhole (Some left) after = after ≡ Some (drop (most_bytes + 1) left)
