use Rattle.std.proofs.Common.{refl, codes, rules, arith}
use Rattle.std.proofs.lemmas.Slice.Eq.{text_from_reads}
use Rattle.sim_trace_reader.proofs.line.end_of.Goals as goal

pub returns-in-starved : goal.returns-in-starved
returns-in-starved c = let e = text_from_reads c.args.word.now (codes "starved") (omega arith) (search rules) in rw e refl
