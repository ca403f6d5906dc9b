use Rattle.std.proofs.Common.{sym, ◌∙◌, ap, is_some, true, false}
use Rattle.sim_trace_reader.proofs.LineLaws.{none_found, line_found, no_text}
use Rattle.sim_trace_reader.proofs.line.parse_line.Goals as goal

pub returns-in_err-likely : goal.returns-in_err-likely
returns-in_err-likely c =
    let ports = c.args.ports.now in
    let none = none_found ports c.args.line.now (sym c.likely_line.ensures ∙ c.in_err-likely.was) in
    record { prints = rw c.from_residual.ensures tt; none = λ _. no_text ports _ none; decides = ap is_some c.from_residual.ensures ∙ none }

pub returns-then-prints_as-clause-decides : goal.returns-then-prints_as-clause-decides
returns-then-prints_as-clause-decides c =
    let found = sym c.likely_line.ensures ∙ c.in_ok-likely.was in
    line_found c.args.ports.now c.args.line.now c.in_ok-likely.likely true found c.if-prints_as.ensures.0 c.if-prints_as.ensures.1

pub returns-else-prints_as : goal.returns-else-prints_as
returns-else-prints_as c =
    let ports = c.args.ports.now in
    let found = sym c.likely_line.ensures ∙ c.in_ok-likely.was in
    let other = line_found ports c.args.line.now c.in_ok-likely.likely false found c.if-prints_as.ensures.0 c.if-prints_as.ensures.1 in
    record { prints = tt; none = λ _. no_text ports _ other; decides = other }
