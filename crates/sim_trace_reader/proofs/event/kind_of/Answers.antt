use Rattle.std.proofs.Common.{refl, codes, rules, arith}
use Rattle.std.proofs.lemmas.Slice.Eq.{text_from_reads}
use Rattle.sim_trace_reader.proofs.event.kind_of.Goals as goal

pub returns-in-timeout : goal.returns-in-timeout
returns-in-timeout c = let e = text_from_reads c.args.word.now (codes "timeout") (omega arith) (search rules) in rw e refl

pub returns-in-process : goal.returns-in-process
returns-in-process c = let e = text_from_reads c.args.word.now (codes "process") (omega arith) (search rules) in rw e refl

pub returns-in-request : goal.returns-in-request
returns-in-request c = let e = text_from_reads c.args.word.now (codes "request") (omega arith) (search rules) in rw e refl

pub returns-in-release : goal.returns-in-release
returns-in-release c = let e = text_from_reads c.args.word.now (codes "release") (omega arith) (search rules) in rw e refl

pub returns-in-interrupt : goal.returns-in-interrupt
returns-in-interrupt c = let e = text_from_reads c.args.word.now (codes "interrupt") (omega arith) (search rules) in rw e refl
