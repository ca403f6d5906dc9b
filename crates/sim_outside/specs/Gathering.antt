-- Sinks that gather, as contracts see them.
use Rattle.std.specs.Prelude.{◌≡◌, ℕ, ◌≤◌, List, length}
use Rattle.std.specs.Io.KnownBytes.{append_known}
use Rattle.sim_outside.specs.Writes.{SinkOf, taking}

-- what a sink tells that holds these bytes before a sink that tells so: what that sink took, and then what is held; the
-- faults and flushes are those of that sink, and what is held is held back
abbrev pub gathered : SinkOf → List ℕ → SinkOf
gathered inner held =
    record {
      taken = append_known inner.taken held;
      faults = inner.faults;
      flushing = taking (length held) inner.flushing;
    }

-- what is told is what a sink tells that holds some bytes before a sink that tells so
pub record GathersFor (inner told : SinkOf) : Type 0 where
  pub held : List ℕ
  pub is : told ≡ gathered inner held

-- bytes stand from start to end in a room of 8,192, and where there are none they begin anew
pub record IsWithinRoom (start end : ℕ) : Type 0 where
  pub ordered : start ≤ end
  pub room : end ≤ 8192
  pub anew : start ≡ end → end ≡ 0
