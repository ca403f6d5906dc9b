-- How a call ends that reads from a source and writes to a sink.
use Rattle.std.specs.Prelude.{◌≡◌, ◌≢◌, ◌↔◌, ℕ, false, IsTrue}
use Rattle.sim_command.specs.declared.status.Status.{Status}
use Rattle.sim_command.specs.declared.status.Status.TheVariants as status
use Rattle.sim_command.specs.Endings.{is_whole, IsWholeOrWanting}
use Rattle.sim_outside.specs.Causes.{Rose}
use Rattle.sim_outside.specs.Writes.{IsFlushedOnce, IsUnflushed, SinkOf}

-- a call that began with `source` and `out`, and left them as `read` and `written`, ended as its status tells. `faults` counts the
-- faults of a source, `tells` is what a sink tells, and `nothing` says that the words ask for nothing
pub record EndsWell {S K : Type 0} (faults : S → ℕ) (tells : K → SinkOf) (nothing : Type 0) (source read : S) (out written : K) (told : Status) : Type 0 where
  -- after a whole answer the sink was flushed once, when all was written; after no other was it flushed
  pub flushed : IsTrue (is_whole told) → IsFlushedOnce (tells out) (tells written)
  pub unflushed : is_whole told ≡ false → IsUnflushed (tells out) (tells written)
  -- usage: exactly where the words ask for nothing, and then nothing is read or written
  pub usage : told ≡ status.Usage ↔ nothing
  pub not_read : told ≡ status.Usage → read ≡ source
  pub not_written : told ≡ status.Usage → written ≡ out
  -- a failed read: only where the source's count rose, and then nothing is written
  pub read_fault : told ≡ status.ReadFault → Rose (faults source) (faults read)
  pub unwritten : told ≡ status.ReadFault → written ≡ out
  -- a failed write or flush: only where the sink's count rose
  pub write_fault : told ≡ status.WriteFault → Rose (tells out).faults (tells written).faults
  -- the counts rise for no other answer
  pub read_well : told ≢ status.ReadFault → faults read ≡ faults source
  pub wrote_well : told ≢ status.WriteFault → (tells written).faults ≡ (tells out).faults
  -- where the words ask for something and neither count rises, the whole answer is written, unless memory is wanting
  pub complete : ¬ nothing → ¬ Rose (faults source) (faults read) → ¬ Rose (tells out).faults (tells written).faults → IsWholeOrWanting told
