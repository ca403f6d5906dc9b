use Rattle.std.proofs.Common.{sym, ◌∙◌}
use Rattle.sim_trace_reader.proofs.Words.{no_number}
use Rattle.sim_trace_reader.proofs.number.number.Goals as goal

pub returns-in_err-value : goal.returns-in_err-value
returns-in_err-value c =
    c.from_residual.ensures
    ∙ no_number c.args.digits.now c.loop-digit.value c.loop-digit.digit-index c.loop-digit-test.true c.loop-digit.invariant (sym c.with_digit.ensures ∙ c.in_err-value.was)
