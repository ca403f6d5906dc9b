-- What a sink tells, and what writing to it does.
use Rattle.std.specs.Prelude.{◌≡◌, ℕ, ◌≤◌, Bool, true, false, ◌||◌, nat_lt, List, ◌++◌, OnOk, IfErr}
use Rattle.std.specs.declared.option.Option.{Option}
use Rattle.std.specs.declared.result.Result.{Result}
use Rattle.std.specs.Io.KnownBytes.{Appends}
use Rattle.sim_outside.specs.Causes.{raised, Rose}

-- how many flushes went well, and whether bytes were taken since the last of them
pub record Flushing : Type 0 where
  pub count : ℕ
  pub held_back : Bool

-- before the first write and flush
abbrev pub no_flush : Flushing
no_flush = record { count = 0; held_back = false }

-- after a write that took n bytes
abbrev pub taking : ℕ → Flushing → Flushing
taking n f = record f { held_back = f.held_back || nat_lt 0 n }

-- after a flush that went well
abbrev pub flushed : Flushing → Flushing
flushed f = record { count = raised f.count; held_back = false }

-- what a sink tells: the bytes taken, in order, where it tells them; how many faults it has had; its flushes
pub record SinkOf : Type 0 where
  pub taken : Option (List ℕ)
  pub faults : ℕ
  pub flushing : Flushing

-- the bytes taken grew by a front of these bytes, and the rest of them is still to be written
pub record AppendsFront (before after : Option (List ℕ)) (bytes rest : List ℕ) : Type 0 where
  pub front : List ℕ
  pub parts : front ++ rest ≡ bytes
  pub appended : Appends before after front

-- the bytes taken grew by a prefix of these bytes
pub record AppendsPrefix (before after : Option (List ℕ)) (bytes : List ℕ) : Type 0 where
  pub rest : List ℕ
  pub front : AppendsFront before after bytes rest

-- a count of faults rose, or is as before
abbrev pub RoseIf : Bool → ℕ → ℕ → Type 0
RoseIf true before after = Rose before after
RoseIf false before after = after ≡ before

-- a call wrote these bytes: all of them where it answered Ok, and a prefix of them in each case. The count of faults rose
-- where the call failed by a fault of the sink, and else it is as before
pub record Writes {T E : Type 0} (is_write : E → Bool) (old new : SinkOf) (result : Result T E) (bytes : List ℕ) : Type 0 where
  pub whole : OnOk result (Appends old.taken new.taken bytes)
  pub prefix : AppendsPrefix old.taken new.taken bytes
  pub never_falls : old.faults ≤ new.faults
  pub ok : OnOk result (new.faults ≡ old.faults)
  pub cause : IfErr result (λ fault. RoseIf (is_write fault) old.faults new.faults)

-- no flush went well in a call
abbrev pub IsUnflushed : SinkOf → SinkOf → Type 0
IsUnflushed old new = new.flushing.count ≡ old.flushing.count

-- one flush went well in a call, after all that was written in it
abbrev pub IsFlushedOnce : SinkOf → SinkOf → Type 0
IsFlushedOnce old new = new.flushing ≡ flushed old.flushing
