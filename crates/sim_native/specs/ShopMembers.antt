-- What contracts see of the members of a machine shop: what each keeps from poll to poll. Something is caught by a catch
-- line, whose variables tell of it from then on; in between it is thrown.
use Rattle.std.specs.Prelude.{ℤ, pos}
use Rattle.sim_types.specs.declared.event.EventId.{EventId}
use Rattle.sim_types.specs.declared.event.ProcId.{ProcId}
use Rattle.sim_types.specs.declared.event.Throw.{Throw}

-- a breaker: its machine, and how long it drew last
pub record BreakerOf : Type 0 where
  pub machine : ProcId
  pub drawn : ℤ

-- a machine: its number, how much of its part is left, since when it works on that, its last request for a crew, what it
-- caught last, what was thrown at it, and the process that its breaker got
pub record MachineOf : Type 0 where
  pub id : ℤ
  pub left : ℤ
  pub since : ℤ
  pub request : EventId
  pub caught : Throw
  pub thrown : Throw
  pub given : ProcId

-- a filler: its last request for a crew, what it caught last, and what was thrown at it
pub record FillerOf : Type 0 where
  pub request : EventId
  pub caught : Throw
  pub thrown : Throw

-- the chief: the number of the next machine, how many fillers or machines it is still to start, the next one among them, and
-- what was thrown at it
pub record ChiefOf : Type 0 where
  pub next : ℤ
  pub count : ℤ
  pub thrown : Throw

-- nothing was thrown yet, and no process is given
abbrev pub no_throw : Throw
no_throw = record { value = pos 0; kind = 0 }

abbrev pub no_process : ProcId
no_process = record { 0 = 0 }
