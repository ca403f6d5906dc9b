use Rattle.std.proofs.Common.{codes, rules, arith, sym, ap, ◌∙◌}
use Rattle.std.proofs.lemmas.Slice.Eq.{text_from_reads}
use Rattle.sim_trace_reader.specs.Readings.{arrival_in}
use Rattle.sim_trace_reader.proofs.Words.{named_arrive}
use Rattle.sim_trace_reader.proofs.line.named_in.Goals as goal

pub returns-in-arrive : goal.returns-in-arrive
returns-in-arrive c =
    let word = text_from_reads c.cut.result.0.now (codes "arrive") (omega arith) (search rules) in
    c.arrival_in.ensures ∙ ap (arrival_in c.args.ports.now) c.cut.ensures.rest
    ∙ sym (named_arrive c.args.ports.now c.args.line.now (sym c.cut.ensures.word ∙ word))
