use Rattle.std.proofs.Common.{sym, arith}
use Rattle.std.proofs.lemmas.Fmt.{decimal_digit}
use Rattle.sim_trace.proofs.digits.Leading.new.Goals as goal

pub invariant_of-result : goal.invariant_of-result
invariant_of-result c = record { leads = omega arith; few = omega arith; first = sym (decimal_digit 0 (omega arith)) }
