use Rattle.std.proofs.Common.{ap, ◌^◌, ◌∙◌, bytes_eq, length}
use Rattle.std.specs.Prelude.{unwrap_or}
use Rattle.sim_trace_reader.specs.Readings.{below}
use Rattle.sim_trace_reader.proofs.Words.{below_of, place_or_len}
use Rattle.sim_trace_reader.proofs.line.port_of.Goals as goal

pub returns : goal.returns
returns c =
    let place = c.unwrap_or.ensures ∙ ap (λ o. unwrap_or o (length c.args.ports.now)) c.place_of.ensures ∙ place_or_len (λ port. bytes_eq port c.args.name.now) c.args.ports.now in
    c.ok.ensures.value ∙ below_of c.try_from.result (2 ^ 32) c.unwrap_or.result c.try_from.ensures ∙ ap (below (2 ^ 32)) place
