use Rattle.std.proofs.Common.{rules, sym, ◌∙◌}
use Rattle.sim_trace_reader.proofs.Words.{fed_text}
use Rattle.sim_trace_reader.proofs.line.prints_as.Goals as goal

pub returns-in-10 : goal.returns-in-10
returns-in-10 c =
    let e = c.bytes.ensures ∙ c.render.ensures in
    let h = fed_text c.bytes.result.now c.args.text.now c.eq.result c.in-10.len_at_least (search rules) c.eq.ensures in
    (λ t. sym e ∙ h.0 t, λ q. h.1 (e ∙ q))
