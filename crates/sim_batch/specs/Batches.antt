-- What a batch answers.
use Rattle.std.specs.Prelude.{ℕ, ◌-◌, List, map}
use Rattle.std.specs.List.{range_with_len}
use Rattle.sim_types.specs.declared.line.Summary.{Summary}

-- the answers to the indices from the first on to one before the end, in order
abbrev pub answers_between : (ℕ → Summary) → ℕ → ℕ → List Summary
answers_between answer first end = map answer (range_with_len first (end - first))

-- the answers to the indices 0, 1, .. below this count, in order
abbrev pub answers_of : (ℕ → Summary) → ℕ → List Summary
answers_of answer count = map answer (range_with_len 0 count)
