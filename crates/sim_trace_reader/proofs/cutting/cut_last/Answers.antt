use Rattle.std.proofs.Common.{rules, ◌∙◌}
use Rattle.sim_trace_reader.proofs.Cuts.{last_found, last_none, take_rest}
use Rattle.sim_trace_reader.proofs.cutting.cut_last.Goals as goal

pub returns-in-Some : goal.returns-in-Some
returns-in-Some c =
    let found = last_found c.args.bytes.now c.in-Some.at (search rules) (search rules) (search rules) in
    record { front = found.0; word = take_rest _ c.args.bytes.now ∙ found.1 }

pub returns-in-None : goal.returns-in-None
returns-in-None c =
    let none = last_none c.args.bytes.now (search rules) in
    record { front = none.0; word = none.1 }
