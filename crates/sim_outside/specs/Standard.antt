-- Sources and sinks over a reader or a writer, as contracts see them.
use Rattle.std.specs.Prelude.{ℕ, List}
use Rattle.std.specs.declared.option.Option.{Option}
use Rattle.sim_outside.specs.Writes.{Flushing, SinkOf}

-- a source: its reader, and the count of faults
pub record StdSourceOf (R : Type 0) : Type 0 where
  pub input : R
  pub faults : ℕ

-- a sink: its writer, the count of faults, and its flushes
pub record StdSinkOf (W : Type 0) : Type 0 where
  pub output : W
  pub faults : ℕ
  pub flushing : Flushing

-- what such a sink tells: of the bytes, what the writer tells
abbrev pub told_by_writer : {W : Type 0} → (W → Option (List ℕ)) → StdSinkOf W → SinkOf
told_by_writer contents sink = record { taken = contents sink.output; faults = sink.faults; flushing = sink.flushing }
