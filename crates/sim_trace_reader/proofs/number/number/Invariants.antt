use Rattle.std.proofs.Common.{◌≡◌, drop}
use Rattle.sim_trace_reader.specs.Readings.{number, number_after}
use Rattle.sim_trace_reader.proofs.number.number.Given as goal

-- the number so far goes on with what is left to that of all digits
abbrev pub invariant-loop-digit : goal.invariant-loop-digit
invariant-loop-digit l = number_after l.value (drop l.digit-index l.digits) ≡ number l.digits
