-- Sources and sinks in memory, as contracts see them.
use Rattle.std.specs.Prelude.{ℕ, Bool, List, Some}
use Rattle.sim_outside.specs.Writes.{Flushing, SinkOf}

-- a source: the bytes left, how many one read gives at most, the numbers of the reads that fail, the number of the next
-- read, and the count of faults
pub record MemSourceOf : Type 0 where
  pub left : List ℕ
  pub piece : ℕ
  pub fails : List ℕ
  pub reads : ℕ
  pub faults : ℕ

-- a sink: the bytes taken, how many more it takes, whether the next flush fails, the count of faults, and its flushes
pub record MemSinkOf : Type 0 where
  pub taken : List ℕ
  pub room : ℕ
  pub flush_fails : Bool
  pub faults : ℕ
  pub flushing : Flushing

-- what such a sink tells
abbrev pub told_in_memory : MemSinkOf → SinkOf
told_in_memory sink = record { taken = Some sink.taken; faults = sink.faults; flushing = sink.flushing }
