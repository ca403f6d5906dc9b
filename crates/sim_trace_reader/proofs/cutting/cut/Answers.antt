use Rattle.std.proofs.Common.{sym}
use Rattle.sim_trace_reader.proofs.Cuts.{cut_found, cut_none, rest_found, rest_none}
use Rattle.sim_trace_reader.proofs.cutting.cut.Goals as goal

pub returns-in-Some : goal.returns-in-Some
returns-in-Some c = record {
  word = cut_found c.args.bytes.now c.in-Some.at (sym c.in-Some.ensures);
  rest = rest_found c.args.bytes.now c.in-Some.at (sym c.in-Some.ensures);
}

pub returns-in-None : goal.returns-in-None
returns-in-None c = record {
  word = cut_none c.args.bytes.now (sym c.in-None.ensures);
  rest = rest_none c.args.bytes.now (sym c.in-None.ensures);
}
